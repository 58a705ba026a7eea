-- How a run of the network ends, for each reason why the machine of quadruples makes no further step.
use Rattle.std.specs.Prelude.{◌≡◌, ℕ, zero, suc, ◌+◌, ◌-◌, ◌<◌, nat_le, if◌then◌else◌, List, [], ◌∷◌, Some}
use Rattle.bn_circuits.specs.declared.place.Place.TheVariants.{Enter, Left}
use Rattle.bn_machine.specs.Tape.{Tape, scanned, shift, write}
use Rattle.bn_machine.specs.Outcome.{Limits}
use Rattle.bn_machine.specs.declared.quint.Side.TheVariants as side
use Rattle.bn_lists.specs.Lists.{nth}
use Rattle.bn_quad.specs.Quadruples.{Deed, Move, Rewrite, Rule, Configuration, Quadruples, Follows}
use Rattle.bn_bennett_laws.specs.Steps.{Exit, Finished, Stopped, Leaving}
use Rattle.bn_network.specs.declared.cell_line.CellLine.TheVariants.{TakeRight, TakeLeft, Answer, Read}
use Rattle.bn_circuits.specs.Situations.{Situation}
use Rattle.bn_network.specs.Cells.{line_number}
use Rattle.bn_network.specs.Controls.{reads_of, ControlState, End, Reads, Tape as to_tape, IsEntry, symbol_count}
use Rattle.bn_network.specs.Controls.{in_number}
use Rattle.bn_network.specs.Networks.{ShowsTapes, ShowsAllCells, IsControlAt, first_cell, cells_in, IsTape}

-- a configuration's tape, counted from 1
abbrev pub tape_of : Configuration ℕ → ℕ → Tape
tape_of c zero = c.one
tape_of c (suc zero) = c.one
tape_of c (suc (suc zero)) = c.two
tape_of c (suc (suc (suc t))) = c.three

-- the configuration with this tape in place of that one
abbrev pub put_tape : Configuration ℕ → ℕ → Tape → Configuration ℕ
put_tape c zero x = c
put_tape c (suc zero) x = record { state = c.state; one = x; two = c.two; three = c.three }
put_tape c (suc (suc zero)) x = record { state = c.state; one = c.one; two = x; three = c.three }
put_tape c (suc (suc (suc t))) x = record { state = c.state; one = c.one; two = c.two; three = x }

-- the configuration without a tape's scanned symbol, which has been replaced by the blank
abbrev pub taken_from : Configuration ℕ → ℕ → Configuration ℕ
taken_from c t = put_tape c t (write (tape_of c t) 0)

-- a tape after a deed's read: the symbol read has been replaced by the blank
abbrev pub read_by : Deed → Tape → Tape
read_by (Rewrite read written) x = write x 0
read_by (Move s) x = x

-- a tape after a deed's shift
abbrev pub shift_by : Deed → Tape → Tape
shift_by (Rewrite read written) x = x
shift_by (Move s) x = shift x s

-- a tape after the reads of a step, and after the shifts of the tapes up to `last`
abbrev pub shifted_to : ℕ → ℕ → Deed → Tape → Tape
shifted_to last t d x = if nat_le t last then shift_by d (read_by d x) else read_by d x

-- The tapes when the head of tape t leaves its window within a step by this quadruple: all symbols that it reads have
-- been replaced by the blank, the tapes up to t have been shifted, and nothing has been written.
abbrev pub left_at : ℕ → Rule ℕ → Configuration ℕ → Configuration ℕ
left_at t r c = record {
  state = c.state;
  one = shifted_to t 1 r.one c.one;
  two = shifted_to t 2 r.two c.two;
  three = shifted_to t 3 r.three c.three;
}

-- The machine is stuck at its first read: the first command of the state reads tape t, and no quadruple that leaves
-- the state reads the scanned symbol on this tape as its first read. This record does not cover a stop at a later
-- read.
pub record IsStoppedAt (m : Quadruples) (c : Configuration ℕ) (t : ℕ) : Type 0 where
  pub tape : IsTape t
  pub entry : IsEntry m c.state (Reads c.state [], to_tape t Read)
  pub none : (n : ℕ) (r : Rule ℕ) (rest : List (ℕ × ℕ)) → nth m.rules n ≡ Some r → r.from ≡ c.state
      → reads_of r ≡ (t, scanned (tape_of c t)) ∷ rest → ⊥

-- How the network's run ends. At the final state: the signal leaves by the control's port to the outside, and the
-- cells show the tapes. Stuck: the signal is at the control, with a reply to its first read for which it has no move,
-- and the cells show the tapes without the symbol that was read. Outside the window: the signal leaves by the last or
-- the first cell of a tape. The cells show the tapes within the step that contains this shift, and no cell of this
-- tape has the head.
pub data EndsBy (m : Quadruples) (l : Limits) (names : List ControlState) (s : Situation) (c : Configuration ℕ) : Exit
    → Type 0 where
  by_end : s.place ≡ Left 0 0 → IsControlAt names s.states End → ShowsTapes m l s.states c
      → EndsBy m l names s c Finished
  by_stop : (t : ℕ) → IsStoppedAt m c t → s.place ≡ Enter 0 (in_number m (to_tape t (Answer (scanned (tape_of c t)))))
      → IsControlAt names s.states (Reads c.state []) → scanned (tape_of c t) < symbol_count m t
      → ShowsTapes m l s.states (taken_from c t) → EndsBy m l names s c Stopped
  by_right : (t : ℕ) → IsTape t
      → s.place ≡ Left (first_cell l t + (cells_in l t - 1)) (line_number (symbol_count m t) TakeRight)
      → (d : Configuration ℕ) (step : Follows m.rules c d) → ShowsAllCells m l s.states (left_at t step.leads.rule c)
      → EndsBy m l names s c (Leaving t side.Right)
  by_left : (t : ℕ) → IsTape t → s.place ≡ Left (first_cell l t) (line_number (symbol_count m t) TakeLeft)
      → (d : Configuration ℕ) (step : Follows m.rules c d) → ShowsAllCells m l s.states (left_at t step.leads.rule c)
      → EndsBy m l names s c (Leaving t side.Left)

-- the reasons that the law on the last moment covers: all but a stop at a later read
abbrev pub IsEarlyStop : Quadruples → Configuration ℕ → Exit → Type 0
IsEarlyStop m c Finished = Unit {0}
IsEarlyStop m c Stopped = (t : ℕ) × IsStoppedAt m c t
IsEarlyStop m c (Leaving t side) = Unit {0}
