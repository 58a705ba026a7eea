-- The place of a circuit's signal, by modules (own to this project).
use Rattle.std.specs.Prelude.{◌≡◌, ◌↔◌, ℕ, ◌+◌, ◌<◌, ◌≤◌, pos, ◌-ℤ◌, Option, Some}
use Rattle.bn_circuits.specs.declared.place.Place.{Place}
use Rattle.bn_circuits.specs.declared.place.Place.TheVariants.{Enter, Left}
use Rattle.bn_element.specs.Rotary.{west}
use Rattle.bn_network.specs.Cells.{cell_line_count}
use Rattle.bn_network.specs.Networks.{IsTape, bank_size, cell_size, cells_in, left_of}
use Rattle.bn_boards.specs.Layouts.{Layout, symbol_count_at, lines_at, cell_element}
use Rattle.bn_board.specs.declared.located.Located.{Located}
use Rattle.bn_board.specs.declared.located.Located.TheVariants.{Control, Cell, Outside}

-- If the signal enters port l of element e, it enters input port i of a bank with this many ports that begins at the
-- element `first` exactly if this is the west of row i of the first column.
abbrev pub IsInputLine : ℕ → ℕ → ℕ → ℕ → Option ℕ → Type 0
IsInputLine first lines e l line = (i : ℕ) → (line ≡ Some i) ↔ ((i < lines) × (e ≡ first + i) × (l ≡ west))

-- the module in whose bank the signal is, and the input port by which it enters, if it enters by one
pub data IsLocated (b : Layout) (p : Place) (at : Located) : Type 0 where
  left : (e l : ℕ) → p ≡ Left e l → at ≡ Outside → IsLocated b p at
  in_control : (e l : ℕ) → p ≡ Enter e l → e < bank_size b.states (lines_at b)
      → (line : Option ℕ) → IsInputLine 0 (lines_at b) e l line → at ≡ Control line → IsLocated b p at
  in_cell : (e l : ℕ) → p ≡ Enter e l → (t q : ℕ) → IsTape t → q < cells_in b.limits t → cell_element b t q ≤ e
      → e < cell_element b t q + cell_size (symbol_count_at b t)
      → (line : Option ℕ) → IsInputLine (cell_element b t q) (cell_line_count (symbol_count_at b t)) e l line
      → at ≡ Cell t (pos q -ℤ pos (left_of b.limits t)) line → IsLocated b p at
