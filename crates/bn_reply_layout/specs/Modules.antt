-- The modules of a circuit in its layout: the first element of each bank, and the name of each module (this project's
-- own definition).
use Rattle.std.specs.Prelude.{◌≡◌, ℕ, ◌+◌, ◌*◌, ◌<◌, ◌≤◌, pos, ◌-ℤ◌, List, [], ◌∷◌, ◌++◌, map}
use Rattle.std.specs.List.{range_with_len}
use Rattle.bn_machine.specs.Outcome.{Limits}
use Rattle.bn_network.specs.Cells.{cell_line_count}
use Rattle.bn_network.specs.Networks.{cells_in, cell_size, first_cell, left_of}
use Rattle.bn_boards.specs.Layouts.{Layout, first_element, lines_at, symbol_count_at}
use Rattle.bn_reply_layout.specs.declared.bank.Bank.{Bank}
use Rattle.bn_reply_layout.specs.declared.bank.ModuleName.TheVariants.{Control, Cell}

-- the cell of a tape of z symbols at the place j from the left, given the module and the element of the first one,
-- where this many cells are left of position 0
abbrev pub cell_bank : ℕ → ℕ → ℕ → ℕ → ℕ → ℕ → Bank
cell_bank tape z left number first j = record {
  number = number + j;
  name = Cell tape (pos j -ℤ pos left);
  first = first + j * cell_size z;
  columns = 2 * z;
  lines = cell_line_count z;
}

-- this many cells of a tape, from left to right
abbrev pub cell_banks : ℕ → ℕ → ℕ → ℕ → ℕ → ℕ → List Bank
cell_banks tape z left number first count = map (cell_bank tape z left number first) (range_with_len 0 count)

-- the cells of tape t
abbrev pub tape_banks : Layout → ℕ → List Bank
tape_banks b t =
    cell_banks t (symbol_count_at b t) (left_of b.limits t) (first_cell b.limits t) (first_element b t)
    (cells_in b.limits t)

abbrev pub control_bank : Layout → Bank
control_bank b = record { number = 0; name = Control; first = 0; columns = b.states; lines = lines_at b }

-- all modules: the control, and then the cells tape by tape
abbrev pub modules_of : Layout → List Bank
modules_of b = control_bank b ∷ tape_banks b 1 ++ (tape_banks b 2 ++ tape_banks b 3)

-- the element is in this row of this column of the bank; the last row of a column, after those of the ports, is its
-- bottom
pub record StandsIn (m : Bank) (element column row : ℕ) : Type 0 where
  pub of_columns : column < m.columns
  pub of_rows : row ≤ m.lines
  pub is : element ≡ m.first + (column * (m.lines + 1) + row)

-- the numbers alone that determine the places of modules
abbrev pub shape : Limits → List ℕ → ℕ → Layout
shape l symbols states = record { limits = l; symbols = symbols; states = states; firsts = []; awaited = [] }
