-- The network of control and cells (own to this project), and what its cells show. Tapes are counted from 1, modules
-- from 0: the control, then each tape's cells from left to right.
use Rattle.std.specs.Prelude.{◌≡◌, ◌≢◌, ◌↔◌, ℕ, zero, suc, ◌+◌, ◌*◌, ◌<◌, ◌≤◌, ℤ, pos, ◌-ℤ◌, List, [], ◌∷◌, ◌++◌}
use Rattle.std.specs.Prelude.{replicate, map, Some, slice_get, if◌then◌else◌}
use Rattle.std.specs.Ordering.{int_eq}
use Rattle.std.specs.List.{range_with_len}
use Rattle.bn_element.specs.Tables.{Table}
use Rattle.bn_circuits.specs.Circuits.{Circuit, target, IsCircuit}
use Rattle.bn_circuits.specs.declared.line.Line.{Line}
use Rattle.bn_circuits.specs.declared.place.Place.TheVariants.{Enter}
use Rattle.bn_machine.specs.Tape.{Tape, cell, word_tape}
use Rattle.bn_machine.specs.Window.{IsBetween}
use Rattle.bn_machine.specs.Outcome.{Limits}
use Rattle.bn_quad.specs.Quadruples.{Configuration, Quadruples}
use Rattle.bn_network.specs.declared.cell_line.CellLine.{CellLine}
use Rattle.bn_network.specs.declared.cell_line.CellLine.TheVariants.{Read, Write, ShiftRight, ShiftLeft, TakeRight}
use Rattle.bn_network.specs.declared.cell_line.CellLine.TheVariants.{Answer, DoneWrite, DoneRight, DoneLeft, TakeLeft}
use Rattle.bn_circuits.specs.Situations.{Situation, situation}
use Rattle.bn_network.specs.Cells.{CellState, Plain, Head, IsLineOf, cell_table, line_number, state_number}
use Rattle.bn_network.specs.Cells.{cell_line_count}
use Rattle.bn_network.specs.Controls.{ControlState, Tape as to_tape, IsControlTable, symbol_count, in_number}
use Rattle.bn_network.specs.Controls.{out_number, control_lines}
use Rattle.bn_circuits.specs.Circuits.{line_at}

-- ---- tapes of cells

-- the left side of a tape's window, and its number of cells; tapes are counted from 1
abbrev pub left_of : Limits → ℕ → ℕ
left_of l zero = 0
left_of l (suc zero) = l.left
left_of l (suc (suc t)) = 0

abbrev pub cells_in : Limits → ℕ → ℕ
cells_in l zero = 0
cells_in l (suc zero) = l.left + l.right + 1
cells_in l (suc (suc zero)) = l.steps + 1
cells_in l (suc (suc (suc zero))) = l.output + 1
cells_in l (suc (suc (suc (suc t)))) = 0

-- the module of a tape's first cell: the control is module 0
abbrev pub first_cell : Limits → ℕ → ℕ
first_cell l zero = 0
first_cell l (suc zero) = 1
first_cell l (suc (suc t)) = first_cell l (suc t) + cells_in l (suc t)

pub record IsTape (t : ℕ) : Type 0 where
  pub low : 0 < t
  pub high : t ≤ 3

-- ports for signals from the control (`IsCommand`), to the control (`IsReply`), and from cell to cell, rightward
-- (`GoesRight`) and leftward (`GoesLeft`)
abbrev pub IsCommand : CellLine → Type 0
IsCommand Read = Unit {0}
IsCommand (Write u) = Unit {0}
IsCommand ShiftRight = Unit {0}
IsCommand ShiftLeft = Unit {0}
IsCommand _ = ⊥

abbrev pub IsReply : CellLine → Type 0
IsReply (Answer u) = Unit {0}
IsReply DoneWrite = Unit {0}
IsReply DoneRight = Unit {0}
IsReply DoneLeft = Unit {0}
IsReply _ = ⊥

abbrev pub GoesRight : CellLine → Type 0
GoesRight TakeRight = Unit {0}
GoesRight c = IsCommand c

abbrev pub GoesLeft : CellLine → Type 0
GoesLeft TakeLeft = Unit {0}
GoesLeft c = IsReply c

-- ---- the network

-- the wires between modules
pub data IsNetWire (m : Quadruples) (l : Limits) (from to : Line) : Type 0 where
  commands : (t : ℕ) (c : CellLine) → IsTape t → IsCommand c → IsLineOf (symbol_count m t) c
      → from ≡ line_at 0 (out_number m (to_tape t c)) → to ≡ line_at (first_cell l t) (line_number (symbol_count m t) c)
      → IsNetWire m l from to
  replies : (t : ℕ) (c : CellLine) → IsTape t → IsReply c → IsLineOf (symbol_count m t) c
      → from ≡ line_at (first_cell l t) (line_number (symbol_count m t) c) → to ≡ line_at 0 (in_number m (to_tape t c))
      → IsNetWire m l from to
  rightward : (t p : ℕ) (c : CellLine) → IsTape t → p + 1 < cells_in l t → GoesRight c → IsLineOf (symbol_count m t) c
      → from ≡ line_at (first_cell l t + p) (line_number (symbol_count m t) c)
      → to ≡ line_at (first_cell l t + (p + 1)) (line_number (symbol_count m t) c) → IsNetWire m l from to
  leftward : (t p : ℕ) (c : CellLine) → IsTape t → p + 1 < cells_in l t → GoesLeft c → IsLineOf (symbol_count m t) c
      → from ≡ line_at (first_cell l t + (p + 1)) (line_number (symbol_count m t) c)
      → to ≡ line_at (first_cell l t + p) (line_number (symbol_count m t) c) → IsNetWire m l from to

abbrev pub module_tables : Quadruples → Limits → Table → List Table
module_tables m l control = control ∷ replicate (cells_in l 1) (cell_table (symbol_count m 1))
    ++ replicate (cells_in l 2) (cell_table (symbol_count m 2))
    ++ replicate (cells_in l 3) (cell_table (symbol_count m 3))

-- This circuit of modules is the network of the machine within these limits. `names` should be the control's states
-- in order; this record does not require it, and each law on costs or numbers requires it in addition.
pub record IsNetwork (m : Quadruples) (l : Limits) (names : List ControlState) (k : Circuit) : Type 0 where
  pub circuit : IsCircuit k
  pub control : Table
  pub is_control : IsControlTable m names control
  pub tables : k.tables ≡ module_tables m l control
  pub wires : (from to : Line) → (target k.wires from ≡ Some to) ↔ IsNetWire m l from to

-- the number of elements of a bank of n columns with k rows and a bottom
abbrev pub bank_size : ℕ → ℕ → ℕ
bank_size n k = n * (k + 1)

-- the number of elements of the bank of a cell for z symbols
abbrev pub cell_size : ℕ → ℕ
cell_size z = bank_size (2 * z) (cell_line_count z)

abbrev pub elements_by : Quadruples → Limits → ℕ → ℕ
elements_by m l control_states = bank_size control_states (control_lines m) + cells_in l 1 * cell_size
    (symbol_count m 1) + cells_in l 2 * cell_size (symbol_count m 2) + cells_in l 3 * cell_size (symbol_count m 3)

-- ---- what the cells show

abbrev pub cell_of : Tape → ℤ → CellState
cell_of t p = if int_eq p t.head then Head (cell t p) else Plain (cell t p)

-- The cells from this module on, for z symbols, show the tape from -left to right: the tape is blank elsewhere, and
-- each cell has its symbol, and the head if the head is there. If the head is elsewhere, no cell has it.
pub record ShowsCells (states : List ℕ) (first z left right : ℕ) (t : Tape) : Type 0 where
  pub inside : (p : ℤ) → cell t p ≢ 0 → IsBetween left right p
  pub symbols : (p : ℤ) → cell t p < z
  pub cells : (j : ℕ) → j < left + right + 1
      → slice_get states (first + j) ≡ Some (state_number z (cell_of t (pos j -ℤ pos left)))

-- the cells show the tape, and its head is in one of them
pub record ShowsTape (states : List ℕ) (first z left right : ℕ) (t : Tape) : Type 0 where
  pub head : IsBetween left right t.head
  pub shown : ShowsCells states first z left right t

pub record ShowsTapes (m : Quadruples) (l : Limits) (states : List ℕ) (c : Configuration ℕ) : Type 0 where
  pub one : ShowsTape states (first_cell l 1) (symbol_count m 1) l.left l.right c.one
  pub two : ShowsTape states (first_cell l 2) (symbol_count m 2) 0 l.steps c.two
  pub three : ShowsTape states (first_cell l 3) (symbol_count m 3) 0 l.output c.three

-- the cells of the three tapes show these tapes, wherever their heads are
pub record ShowsAllCells (m : Quadruples) (l : Limits) (states : List ℕ) (c : Configuration ℕ) : Type 0 where
  pub one : ShowsCells states (first_cell l 1) (symbol_count m 1) l.left l.right c.one
  pub two : ShowsCells states (first_cell l 2) (symbol_count m 2) 0 l.steps c.two
  pub three : ShowsCells states (first_cell l 3) (symbol_count m 3) 0 l.output c.three

-- the control is in this state
pub record IsControlAt (names : List ControlState) (states : List ℕ) (q : ControlState) : Type 0 where
  pub number : ℕ
  pub is : slice_get states 0 ≡ Some number
  pub named : slice_get names number ≡ Some q

-- the states of the cells from -left to right of a tape that contains this word from cell 1 on, with the head at 0
abbrev pub start_cells : ℕ → ℕ → List ℕ → ℕ → List ℕ
start_cells z left word right = map (λ j. state_number z (cell_of (word_tape word) (pos j -ℤ pos left)))
    (range_with_len 0 (left + right + 1))

-- the start: the control in its first state, the word on tape 1 from cell 1 on, all other cells blank, the heads at
-- 0, the signal at the control's port from outside
abbrev pub network_start : Quadruples → Limits → List ℕ → Situation
network_start m l word = situation (0 ∷ start_cells (symbol_count m 1) l.left word l.right
    ++ start_cells (symbol_count m 2) 0 [] l.steps ++ start_cells (symbol_count m 3) 0 [] l.output) (Enter 0 0)
