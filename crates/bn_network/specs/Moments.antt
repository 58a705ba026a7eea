-- Moments of the network (own to this project): the situations at which it represents a configuration of the machine
-- of quadruples.
use Rattle.std.specs.Prelude.{◌≡◌, ◌≢◌, ℕ, ◌+◌, ◌*◌, ◌<◌, ◌≤◌, pos, ◌+ℤ◌, Bool, true, false, not, List, Some, slice_get}
use Rattle.std.specs.Prelude.{◌⊎◌}
use Rattle.std.specs.Int.RustNames.{unsigned_abs}
use Rattle.bn_lists.specs.Runs.{Passes}
use Rattle.bn_circuits.specs.Circuits.{Circuit, place_after}
use Rattle.bn_circuits.specs.declared.place.Place.TheVariants.{Enter, Left}
use Rattle.bn_machine.specs.Tape.{Tape}
use Rattle.bn_machine.specs.Outcome.{Limits}
use Rattle.bn_machine.specs.declared.quint.Shift.{Shift}
use Rattle.bn_machine.specs.declared.quint.Shift.TheVariants as way
use Rattle.bn_quad.specs.Quadruples.{Deed, Rewrite, Move, Rule, Configuration, Quadruples, final_state_of}
use Rattle.bn_network.specs.declared.cell_line.CellLine.TheVariants.{TakeRight, TakeLeft}
use Rattle.bn_circuits.specs.Situations.{Situation, Turns}
use Rattle.bn_rsm.specs.RunCosts.{run_cost}
use Rattle.bn_network.specs.Cells.{line_number}
use Rattle.bn_network.specs.Controls.{ControlState, ControlMove, IsEntry, symbol_count, out_number}
use Rattle.bn_network.specs.Networks.{ShowsTapes, IsControlAt, first_cell, cells_in, IsTape}
use Rattle.bn_circuits.specs.Circuits.{line_at}

-- The network is at the moment of a state of the machine. For the final state, the signal has left by the control's
-- port to the outside. For another state, the control waits for the reply to that state's first command, and the
-- signal is where that command's port leads.
pub data IsMoment (m : Quadruples) (names : List ControlState) (k : Circuit) (s : Situation) (a : ℕ) : Type 0 where
  at_end : a ≡ final_state_of m.rules → s.place ≡ Left 0 0 → IsMoment m names k s a
  sent : a ≢ final_state_of m.rules → (first : ControlMove) → IsEntry m a first → IsControlAt names s.states first.0
      → s.place ≡ place_after k.wires (line_at 0 (out_number m first.1)) → IsMoment m names k s a

-- the network is at the moment of this configuration: the control waits for the reply to the first command of its
-- state (in the final state too), and the cells show the tapes
pub record IsMomentOf (m : Quadruples) (l : Limits) (names : List ControlState) (k : Circuit) (s : Situation)
    (c : Configuration ℕ) : Type 0 where
  pub first : ControlMove
  pub entry : IsEntry m c.state first
  pub waits : IsControlAt names s.states first.0
  pub place : s.place ≡ place_after k.wires (line_at 0 (out_number m first.1))
  pub shows : ShowsTapes m l s.states c

-- the test is false in each situation that is no moment, and true in each that is one
pub record TellsMoments (m : Quadruples) (names : List ControlState) (k : Circuit) (test : Situation
    → Bool) : Type 0 where
  pub none : (s : Situation) → ((a : ℕ) → IsMoment m names k s a → ⊥) → test s ≡ false
  pub some : (s : Situation) (a : ℕ) → IsMoment m names k s a → test s ≡ true

-- ---- how many moves a quadruple takes

-- a command on a tape whose head is at cell h, counted from 0: the moves of the signal to that cell and back, and the
-- control's next move
abbrev pub shift_moves : ℕ → Shift → ℕ
shift_moves h way.Left = 2 * h + 2
shift_moves h way.Stay = 0
shift_moves h way.Right = 2 * h + 4

abbrev pub deed_moves : ℕ → Deed → ℕ
deed_moves h (Rewrite read written) = (2 * h + 2) + (2 * h + 2)
deed_moves h (Move s) = shift_moves h s

-- the cell of a head, counted from 0
abbrev pub head_cell : ℕ → Tape → ℕ
head_cell left t = unsigned_abs (t.head +ℤ pos left)

abbrev pub quad_moves : Limits → Rule ℕ → Configuration ℕ → ℕ
quad_moves l r c = deed_moves (head_cell l.left c.one) r.one + deed_moves (head_cell 0 c.two) r.two + deed_moves
    (head_cell 0 c.three) r.three

-- ---- from moment to moment

-- from s to t in n moves, with no moment strictly between, at most at this cost
pub record Travels (k : Circuit) (test : Situation → Bool) (n most : ℕ) (s t : Situation) : Type 0 where
  pub path : Passes (Turns k) (λ x. not (test x)) n s t
  pub cost : run_cost k n s ≤ most

-- each tape has at least one symbol, the blank
abbrev pub HasLetters : Quadruples → Type 0
HasLetters m = (t : ℕ) → IsTape t → 0 < symbol_count m t

-- ---- heads

-- no tape has two cells with the head, and while the signal carries the head to a cell of a tape, no cell of that
-- tape has it
pub record HasHeads (m : Quadruples) (l : Limits) (s : Situation) : Type 0 where
  pub one : (t p q i j : ℕ) → IsTape t → p < cells_in l t → q < cells_in l t
      → slice_get s.states (first_cell l t + p) ≡ Some i → slice_get s.states (first_cell l t + q) ≡ Some j
      → symbol_count m t ≤ i → symbol_count m t ≤ j → p ≡ q
  pub carried : (t p q i : ℕ) → IsTape t → p < cells_in l t → q < cells_in l t
      → (s.place ≡ Enter (first_cell l t + p) (line_number (symbol_count m t) TakeRight))
      ⊎ (s.place ≡ Enter (first_cell l t + p) (line_number (symbol_count m t) TakeLeft))
      → slice_get s.states (first_cell l t + q) ≡ Some i → i < symbol_count m t
