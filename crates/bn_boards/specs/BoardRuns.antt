-- The headline over the definitions: a circuit runs to the exit that the machine's own bounded run determines, in
-- exactly its cost.
use Rattle.std.specs.Prelude.{◌≡◌, ℕ, ◌+◌, ◌*◌, ◌<◌, ◌≤◌, pos, ◌+ℤ◌, List, length, take, Some, slice_get}
use Rattle.bn_element.specs.Tables.{Table}
use Rattle.bn_lists.specs.Runs.{Reaches}
use Rattle.bn_circuits.specs.Circuits.{clock, Goes, IsStuck}
use Rattle.bn_circuits.specs.Stepping.{run}
use Rattle.bn_circuits.specs.declared.config.Config.{Config}
use Rattle.bn_machine.specs.Machine.{IsFinal, MachineRunsTo, Moment, Program, start}
use Rattle.bn_machine.specs.Run.{Follows, IsOutput}
use Rattle.bn_machine.specs.Tape.{Tape, ahead, blank_tape, scanned, shift, word_tape, write}
use Rattle.bn_machine.specs.Window.{anywhere}
use Rattle.bn_machine.specs.Outcome as outcome
use Rattle.bn_machine.specs.Outcome.{Limits, Outcome}
use Rattle.bn_machine.specs.declared.quint.Shift.TheVariants.{Right}
use Rattle.bn_machine.specs.declared.quint.Side.{Side}
use Rattle.bn_machine.specs.declared.quint.Side.TheVariants as side
use Rattle.bn_quad.specs.Quadruples.{Configuration}
use Rattle.bn_bennett_laws.specs.Stages.{history}
use Rattle.bn_bennett_laws.specs.declared.name.Name.TheVariants.{Compute}
use Rattle.bn_bennett.specs.Translation.{name_of}
use Rattle.bn_bennett.specs.Runs.{ending_of}
use Rattle.bn_realise.specs.Banks.{IsResting}
use Rattle.bn_boards.specs.declared.exit.Exit.{Exit}
use Rattle.bn_boards.specs.declared.exit.Exit.TheVariants as exit
use Rattle.bn_network.specs.Controls.{End}
use Rattle.bn_boards.specs.Boards.{base}
use Rattle.bn_boards.specs.Layouts.{IsExit, moments, spelled_by, spelled_config, spelled_tapes}
use Rattle.bn_boards.specs.Flats.{Flat, flat_start}
use Rattle.bn_boards.specs.Costs.{HasCost, bound_of}

-- the exit that an outcome determines; a state of the machine corresponds to the state of the reversible machine that
-- computes in it
abbrev pub IsExitFor : Flat → Outcome → Exit → Type 0
IsExitFor f (outcome.Halted y) e = e ≡ exit.End
IsExitFor f (outcome.Stuck j c) e = (a : ℕ) × (name_of f.translation a ≡ Compute j) × (e ≡ exit.Stuck a c)
IsExitFor f (outcome.Outside t side) e = e ≡ exit.Window t side

-- the circuit's cells show this configuration of the reversible machine
abbrev pub BoardSpells : Flat → List ℕ → Configuration ℕ → Type 0
BoardSpells f states c = spelled_by f.layout states ≡ spelled_config f.limits c

-- At the end: the word on tape 1 again, tape 2 blank, only y on tape 3, all heads at 0; every bank at rest, and the
-- control in its last state.
pub record SpellsRestored (f : Flat) (states : List ℕ) (y : List ℕ) : Type 0 where
  pub spells : BoardSpells f states (ending_of f.translation f.word y)
  pub control : (u : Table) (q : ℕ) → slice_get f.network.tables 0 ≡ Some u → slice_get f.names q ≡ Some End
      → IsResting states 0 u.states u.inputs (Some q)
  pub rows : (m : ℕ) (u : Table) → slice_get f.network.tables m ≡ Some u → (q : ℕ)
      × (q < u.states) × IsResting states (base f.network.tables m) u.states u.inputs (Some q)

-- The three tapes if the machine's own run has this outcome at c, after steps by the quintuples with these numbers,
-- the last first, and does not halt with an output for which there is room. `at_stop`: the machine is stuck: its tape
-- without the scanned symbol; the numbers in the order of the steps, with the head at the last; a blank output tape.
-- `for_number`: the history has no cell for the number of the next step: the same, but the history's head is past its
-- end. `for_shift`: the next step's shift leaves the work tape: the tape after that step, with its head past the end;
-- the numbers so far, with the head one cell after the last; a blank output tape. `to_read`: the output y of the
-- final configuration is being copied, and the work tape ends after k letters: its tape, with its head past the end;
-- the numbers, with the head at the last; the k letters, with the head at the last. `to_write`: the output tape ends
-- after the k letters copied: the final tape, with its head one cell after these letters; the numbers, with the head
-- at the last; the k letters, with the head past the end.
pub data AreEndTapes (p : Program) (l : Limits) (ns : List ℕ) (c : Moment) (o : Outcome) (x : Tape × Tape × Tape) :
    Type 0 where
  at_stop : o ≡ outcome.Stuck c.state (scanned c.tape) → x ≡ (write c.tape 0, history ns, blank_tape)
      → AreEndTapes p l ns c o x
  for_number : (d : Moment) → MachineRunsTo anywhere p c d → o ≡ outcome.Outside 2 side.Right
      → x ≡ (write c.tape 0, shift (history ns) Right, blank_tape) → AreEndTapes p l ns c o x
  for_shift : (d : Moment) (end : Side) → MachineRunsTo anywhere p c d → o ≡ outcome.Outside 1 end
      → x ≡ (d.tape, shift (history ns) Right, blank_tape) → AreEndTapes p l ns c o x
  to_read : (y : List ℕ) (k : ℕ) → IsFinal p c → IsOutput c.tape y → o ≡ outcome.Outside 1 side.Right
      → c.tape.head +ℤ pos k ≡ pos l.right
      → x ≡ (shift (ahead k c.tape) Right, history ns, ahead k (word_tape (take k y))) → AreEndTapes p l ns c o x
  to_write : (y : List ℕ) (k : ℕ) → IsFinal p c → IsOutput c.tape y → o ≡ outcome.Outside 3 side.Right
      → k ≡ l.output → x ≡ (shift (ahead k c.tape) Right, history ns, shift (ahead k (word_tape (take k y))) Right)
      → AreEndTapes p l ns c o x

-- The three tapes at the end of the machine's own run of i steps from the word, if it has this outcome. This record
-- does not state that the run has the outcome; its uses do.
pub record HasEndTapes (p : Program) (word : List ℕ) (l : Limits) (i : ℕ) (o : Outcome) (x : Tape × Tape × Tape) :
    Type 0 where
  pub moment : Moment
  pub numbers : List ℕ
  pub run : Follows anywhere p numbers (start p word) moment
  pub steps : length numbers ≡ i
  pub tapes : AreEndTapes p l numbers moment o x

-- the cells show these tapes
pub record SpellsEnd (p : Program) (f : Flat) (states : List ℕ) (i : ℕ) (o : Outcome) : Type 0 where
  pub tapes : Tape × Tape × Tape
  pub has : HasEndTapes p f.word f.limits i o tapes
  pub spells : spelled_by f.layout states ≡ spelled_tapes f.limits tapes

-- the statement for an end
abbrev pub EndsWith : Program → Flat → Config → ℕ → Outcome → Type 0
EndsWith p f d i (outcome.Halted y) = SpellsRestored f d.states y
    × (moments f.layout f.circuit d.steps (flat_start f) ≡ 4 * i + 4 * length y + 6)
EndsWith p f d i o = SpellsEnd p f d.states i o

-- The circuit of a machine whose bounded run has this outcome after i steps: in exactly its cost, which is within the
-- bound, the signal reaches an exit that the outcome determines.
pub record RunsToExit (p : Program) (f : Flat) (i : ℕ) (o : Outcome) : Type 0 where
  pub cost : ℕ
  pub has_cost : HasCost f cost
  pub bounded : cost ≤ bound_of f.layout
  pub in_time : bound_of f.layout < clock
  pub run_to : Reaches (Goes f.circuit) cost (flat_start f) (run f.circuit (flat_start f) cost)
  pub ended : IsStuck f.circuit (run f.circuit (flat_start f) cost)
  pub exit : Exit
  pub is_exit : IsExit f.layout (run f.circuit (flat_start f) cost).place exit
  pub for_outcome : IsExitFor f o exit
  pub with_tapes : EndsWith p f (run f.circuit (flat_start f) cost) i o
