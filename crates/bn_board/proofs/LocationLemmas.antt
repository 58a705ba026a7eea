-- The cell of an element of a tape, and the module of an element.
use Rattle.std.specs.Prelude.{◌≡◌, ℕ, ◌+◌, ◌-◌, ◌*◌, ◌/◌, ◌%◌, ◌<◌, ◌≤◌, pos, ◌-ℤ◌, Option, refl}
use Rattle.std.proofs.Common.{arith, subst}
use Rattle.std.proofs.lemmas.Nat.{div-add-mod'}
use Rattle.std.proofs.Math.Nat.{mul-le-mul_right, div-lt_iff_lt-mul}
use Rattle.bn_circuits.specs.declared.place.Place.TheVariants.{Enter}
use Rattle.bn_network.specs.Cells.{cell_line_count}
use Rattle.bn_network.specs.Networks.{bank_size, cell_size, cells_in, left_of}
use Rattle.bn_boards.specs.Layouts.{Layout, symbol_count_at, lines_at, cell_element}
use Rattle.bn_board.specs.Locations.{IsLocated, IsInputLine, in_control, in_cell}
use Rattle.bn_board.specs.declared.located.Located.TheVariants.{Control, Cell}

-- a cell has an element
pub size_some : (z : ℕ) → 1 ≤ z → 0 < cell_size z
size_some z some = let h : (2 * 1) * (2 * z + 8 + 1) ≤ (2 * z) * (2 * z + 8 + 1) =
    mul-le-mul_right (2 * z + 8 + 1) (omega arith) in omega arith

-- the place is within its cell, and the cell is one of so many
pub record IsInCell (first x size count : ℕ) : Type 0 where
  pub within : (x - first) / size < count
  pub low : first + (x - first) / size * size ≤ x
  pub high : x < first + (x - first) / size * size + size

pub cell_within : (first x size count : ℕ) → 0 < size → first ≤ x → x < first + count * size
    → IsInCell first x size count
cell_within first x size count some least most =
    let whole = div-add-mod' (x - first) size in
    let rest : (x - first) % size < size = omega arith in
    let low : x - first < count * size = omega arith in
    record {
      within = (div-lt_iff_lt-mul {k = size} {x = x - first} {y = count} some).1 low;
      low = omega arith;
      high = omega arith;
    }

-- the place of a board in the control, and in a cell
module _ (b : Layout) (e l : ℕ) where
  pub control_is : (size lines : ℕ) → size ≡ bank_size b.states (lines_at b) → lines ≡ lines_at b → e < size
      → (line : Option ℕ)
      → IsInputLine 0 lines e l line → IsLocated b (Enter e l) (Control line)
  control_is size lines size_is lines_are low line is = in_control e l refl (omega arith) line
      (subst (λ n. IsInputLine 0 n e l line) lines_are is) refl

  pub cell_is : (t q first lines : ℕ) → 1 ≤ t → t ≤ 3 → q < cells_in b.limits t → cell_element b t q ≤ e
      → e < cell_element b t q + cell_size (symbol_count_at b t)
      → first ≡ cell_element b t q → lines ≡ cell_line_count (symbol_count_at b t) → (line : Option ℕ)
      → IsInputLine first lines e l line
      → IsLocated b (Enter e l) (Cell t (pos q -ℤ pos (left_of b.limits t)) line)
  cell_is t q first lines some high within least most first_is lines_are line is =
      in_cell e l refl t q (record { low = omega arith; high = high }) within least most line
      (subst (λ n. IsInputLine n (cell_line_count (symbol_count_at b t)) e l line) first_is
      (subst (λ n. IsInputLine first n e l line) lines_are is)) refl
