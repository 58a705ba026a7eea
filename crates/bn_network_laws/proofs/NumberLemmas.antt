-- A cell's lines and states, by names and by numbers.
use Rattle.std.proofs.Common.{◌≡◌, ℕ, ◌*◌, Some, refl, arith}
use Rattle.std.proofs.lemmas.Bool.{lt-ltb}
use Rattle.bn_network.specs.declared.cell_line.CellLine.{CellLine}
use Rattle.bn_network.specs.declared.cell_line.CellLine.TheVariants.{Read, Write, ShiftRight, ShiftLeft, TakeRight}
use Rattle.bn_network.specs.declared.cell_line.CellLine.TheVariants.{Answer, DoneWrite, DoneRight, DoneLeft, TakeLeft}
use Rattle.bn_network.specs.Cells.{CellState, cell_go, IsLineOf, cell_table, line_number, cell_line_count, state_number}
use Rattle.bn_cell.specs.Laws.{IsStateOf}
use Rattle.bn_cell.specs.Reversible.{states, lines, line_within, state_within}
use Rattle.bn_network.specs.Networks.{GoesRight, GoesLeft}

-- a move by names is one by numbers
pub table_goes : (z : ℕ) (q r : CellState) (l o : CellLine) → IsStateOf z q → IsLineOf z l → cell_go q l ≡ Some (r, o)
    → (cell_table z).go (state_number z q) (line_number z l) ≡ Some (state_number z r, line_number z o)
table_goes z q r l o state line move = rw (
  lt-ltb (state_number z q) (2 * z) (state_within z q state),
  lt-ltb (line_number z l) (cell_line_count z) (line_within z l line),
  states z q state,
  lines z l line,
  move,
) refl

-- the line that takes the head to the right is none that goes left
pub right_apart : (z : ℕ) (c : CellLine) → GoesLeft c → line_number z TakeRight ≡ line_number z c → ⊥
right_apart z (Answer u) left e = omega arith
right_apart z DoneWrite left e = omega arith
right_apart z DoneRight left e = omega arith
right_apart z DoneLeft left e = omega arith
right_apart z TakeLeft left e = omega arith
right_apart z _ left e = left

-- the line that takes the head to the left is none that goes right
pub left_apart : (z : ℕ) (c : CellLine) → GoesRight c → IsLineOf z c → line_number z TakeLeft ≡ line_number z c → ⊥
left_apart z Read right line e = omega arith
left_apart z (Write u) right line e = omega arith
left_apart z ShiftRight right line e = omega arith
left_apart z ShiftLeft right line e = omega arith
left_apart z TakeRight right line e = omega arith
left_apart z _ right line e = right
