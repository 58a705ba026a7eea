-- One command of the control to one tape of the network (own to this project): its effect on the row of the tape's
-- cells, the number of moves, and the cost.
use Rattle.std.specs.Prelude.{◌≡◌, ℕ, zero, suc, ◌+◌, ◌-◌, ◌*◌, ◌<◌, ◌≤◌, Bool, false, not, List, slice_get, ◌⊎◌}
use Rattle.bn_lists.specs.Runs.{Passes}
use Rattle.bn_circuits.specs.Circuits.{Circuit}
use Rattle.bn_circuits.specs.declared.place.Place.{Place}
use Rattle.bn_circuits.specs.declared.place.Place.TheVariants.{Enter, Left}
use Rattle.bn_machine.specs.Tape.{Tape, scanned, write, shift, moved}
use Rattle.bn_machine.specs.Window.{IsBetween, IsBeyond}
use Rattle.bn_machine.specs.Outcome.{Limits}
use Rattle.bn_machine.specs.declared.quint.Shift.{Shift}
use Rattle.bn_machine.specs.declared.quint.Shift.TheVariants as way
use Rattle.bn_machine.specs.declared.quint.Side.{Side}
use Rattle.bn_machine.specs.declared.quint.Side.TheVariants as side
use Rattle.bn_quad.specs.Quadruples.{Quadruples}
use Rattle.bn_network.specs.declared.cell_line.CellLine.{CellLine}
use Rattle.bn_network.specs.declared.cell_line.CellLine.TheVariants.{Read, Write, ShiftRight, ShiftLeft, TakeRight}
use Rattle.bn_network.specs.declared.cell_line.CellLine.TheVariants.{Answer, DoneWrite, DoneRight, DoneLeft, TakeLeft}
use Rattle.bn_circuits.specs.Situations.{Situation, Turns}
use Rattle.bn_rsm.specs.RunCosts.{run_cost}
use Rattle.bn_network.specs.Cells.{line_number}
use Rattle.bn_network.specs.Controls.{ControlState, Tape as to_tape, symbol_count, in_number, shift_line}
use Rattle.bn_network.specs.Networks.{IsNetwork, ShowsCells, ShowsTape, IsTape, first_cell, cells_in, left_of}
use Rattle.bn_network.specs.Networks.{cell_size}
use Rattle.bn_network.specs.Moments.{head_cell}

-- the right side of a tape's window; `left_of` is the left one
abbrev pub right_of : Limits → ℕ → ℕ
right_of l zero = 0
right_of l (suc zero) = l.right
right_of l (suc (suc zero)) = l.steps
right_of l (suc (suc (suc t))) = l.output

-- the cells of tape t show this tape
abbrev pub ShowsAt : Quadruples → Limits → ℕ → List ℕ → Tape → Type 0
ShowsAt m l t states tape = ShowsTape states (first_cell l t) (symbol_count m t) (left_of l t) (right_of l t) tape

-- the cells of tape t show this tape, wherever its head is
abbrev pub ShowsCellsAt : Quadruples → Limits → ℕ → List ℕ → Tape → Type 0
ShowsCellsAt m l t states tape = ShowsCells states (first_cell l t) (symbol_count m t) (left_of l t) (right_of l t) tape

-- the cell of its head, counted from 0
abbrev pub head_of : Limits → ℕ → Tape → ℕ
head_of l t tape = head_cell (left_of l t) tape

-- the elements of the tape's cells
abbrev pub tape_elements : Quadruples → Limits → ℕ → ℕ
tape_elements m l t = cells_in l t * cell_size (symbol_count m t)

-- a command that stays in the window: its reply, the tape after it, and the number of moves from the first cell's
-- port to the control's port
pub data Does (m : Quadruples) (l : Limits) (t : ℕ) (tape : Tape) (command answer : CellLine) (after : Tape)
    (n : ℕ) : Type 0 where
  does_read : command ≡ Read → answer ≡ Answer (scanned tape) → after ≡ write tape 0 → n ≡ 2 * head_of l t tape + 1
      → Does m l t tape command answer after n
  does_write : (u : ℕ) → u < symbol_count m t → scanned tape ≡ 0 → command ≡ Write u → answer ≡ DoneWrite
      → after ≡ write tape u → n ≡ 2 * head_of l t tape + 1 → Does m l t tape command answer after n
  does_right : IsBetween (left_of l t) (right_of l t) (moved tape.head way.Right) → command ≡ ShiftRight
      → answer ≡ DoneRight → after ≡ shift tape way.Right → n ≡ 2 * head_of l t tape + 3
      → Does m l t tape command answer after n
  does_left : IsBetween (left_of l t) (right_of l t) (moved tape.head way.Left) → command ≡ ShiftLeft
      → answer ≡ DoneLeft → after ≡ shift tape way.Left → n ≡ 2 * head_of l t tape + 1
      → Does m l t tape command answer after n

-- a shift to a side
abbrev pub way_to : Side → Shift
way_to side.Left = way.Left
way_to side.Right = way.Right

-- the loose port at a side of the row
abbrev pub loose_place : Quadruples → Limits → ℕ → Side → Place
loose_place m l t side.Left = Left (first_cell l t) (line_number (symbol_count m t) TakeLeft)
loose_place m l t side.Right = Left (first_cell l t + (cells_in l t - 1)) (line_number (symbol_count m t) TakeRight)

-- the test is false where the signal is past the first cell, or enters the first cell by a port that is not that of a
-- command
pub record IsCalm (m : Quadruples) (l : Limits) (t : ℕ) (test : Situation → Bool) : Type 0 where
  pub calm : (x : Situation) (p i : ℕ) → p < cells_in l t → (0 < p) ⊎ (symbol_count m t + 2 < i)
      → x.place ≡ Enter (first_cell l t + p) i → test x ≡ false

-- from s the signal returns to the control in n moves, and the test is false strictly between; the cells show the
-- tape after the command, and all other modules are as before
pub record Answered (m : Quadruples) (l : Limits) (k : Circuit) (test : Situation
    → Bool) (t : ℕ) (s : Situation) (answer : CellLine) (after : Tape) (n : ℕ) : Type 0 where
  pub last : Situation
  pub path : Passes (Turns k) (λ x. not (test x)) n s last
  pub cost : run_cost k n s ≤ 8 * tape_elements m l t
  pub place : last.place ≡ Enter 0 (in_number m (to_tape t answer))
  pub shows : ShowsAt m l t last.states after
  pub others : (e : ℕ) → (e < first_cell l t) ⊎ (first_cell l t + cells_in l t ≤ e)
      → slice_get last.states e ≡ slice_get s.states e

-- from s the signal leaves by the loose port at this side; the cells show the shifted tape, whose head has left them,
-- and all other modules are as before
pub record Parted (m : Quadruples) (l : Limits) (k : Circuit) (test : Situation
    → Bool) (t : ℕ) (s : Situation) (tape : Tape) (to : Side) : Type 0 where
  pub moves : ℕ
  pub last : Situation
  pub path : Passes (Turns k) (λ x. not (test x)) moves s last
  pub cost : run_cost k moves s ≤ 8 * tape_elements m l t
  pub place : last.place ≡ loose_place m l t to
  pub shows : ShowsCellsAt m l t last.states (shift tape (way_to to))
  pub others : (e : ℕ) → (e < first_cell l t) ⊎ (first_cell l t + cells_in l t ≤ e)
      → slice_get last.states e ≡ slice_get s.states e

abbrev pub Commands : Type 0
Commands =
    (m : Quadruples) (l : Limits) (names : List ControlState) (k : Circuit) (test : Situation
    → Bool) (t : ℕ) (s : Situation) (tape : Tape) → IsNetwork m l names k → IsTape t → IsCalm m l t test
    → ShowsAt m l t s.states tape
    → ((command answer : CellLine) (after : Tape) (n : ℕ) → Does m l t tape command answer after n
    → s.place ≡ Enter (first_cell l t) (line_number (symbol_count m t) command)
    → Answered m l k test t s answer after n)
    × ((to : Side) → IsBeyond (left_of l t) (right_of l t) to (moved tape.head (way_to to))
    → s.place ≡ Enter (first_cell l t) (line_number (symbol_count m t) (shift_line to)) → Parted m l k test t s tape to)
