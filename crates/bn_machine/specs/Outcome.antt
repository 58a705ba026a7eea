-- The bounded run of a machine in a window, and its outcome, both defined by the machine alone (this project's own
-- profile of Bennett 1973).
use Rattle.std.specs.Prelude.{◌≡◌, ℕ, ◌+◌, ◌<◌, ◌≤◌, ℤ, pos, ◌+ℤ◌, ◌≤ℤ◌, ◌<ℤ◌, List, length}
use Rattle.bn_machine.specs.Tape.{scanned}
use Rattle.bn_machine.specs.Window.{anywhere, within, IsBeyond}
use Rattle.bn_machine.specs.Machine.{Program, Moment, MachineRunsTo, IsFinal, IsMachineStuck}
use Rattle.bn_machine.specs.Run.{AfterWithin, IsOutput}
use Rattle.bn_machine.specs.declared.quint.Side.{Side}
use Rattle.bn_machine.specs.declared.quint.Side.TheVariants.{Right}

-- The limits of a run: the work tape reaches from -left to right, the history tape holds `steps` steps, the output tape
-- reaches from 0 to `output`.
pub record Limits : Type 0 where
  pub left : ℕ
  pub right : ℕ
  pub steps : ℕ
  pub output : ℕ

-- The outcome of a bounded run: halted with an output; stuck in a state at a symbol; or without room at this end of
-- the tape with this number, where 1 is the work tape, 2 the history and 3 the output.
pub data Outcome : Type 0 where
  Halted : List ℕ → Outcome
  Stuck : ℕ → ℕ → Outcome
  Outside : ℕ → Side → Outcome

-- The j-th cell right of the halted head is on the work tape, and the output tape has a cell j.
pub record HasRoom (l : Limits) (head : ℤ) (j : ℕ) : Type 0 where
  pub work : (head +ℤ pos j) ≤ℤ pos l.right
  pub output : j ≤ l.output

-- From the halted head rightward over an output of this length to the blank after it, j is a cell on the way, and each
-- cell before it has room. `Copies` states that j itself has no room.
pub record IsFirstShort (l : Limits) (head : ℤ) (length_of_output j : ℕ) : Type 0 where
  pub starts : 0 < j
  pub reached : j ≤ length_of_output + 1
  pub before : (k : ℕ) → 0 < k → k < j → HasRoom l head k

-- The outcome of copying an output y from the halted head: there is room up to the blank after it, or the first cell
-- without room is missing on the work tape, or else on the output tape.
pub data Copies (l : Limits) (head : ℤ) (y : List ℕ) (o : Outcome) : Type 0 where
  copied : ((j : ℕ) → 0 < j → j ≤ length y + 1 → HasRoom l head j) → o ≡ Halted y → Copies l head y o
  work_short : (j : ℕ) → IsFirstShort l head (length y) j → pos l.right <ℤ (head +ℤ pos j) → o ≡ Outside 1 Right
      → Copies l head y o
  output_short : (j : ℕ) → IsFirstShort l head (length y) j → (head +ℤ pos j) ≤ℤ pos l.right → l.output < j
      → o ≡ Outside 3 Right → Copies l head y o

-- After i steps the bounded run ends at c with the outcome o. Either the state is final, and copying decides; or no
-- quintuple matches; or the history is full and a step would follow; or the history has room and the shift of the next
-- step would leave the work tape.
pub data ComesOut (p : Program) (l : Limits) (i : ℕ) (c : Moment) (o : Outcome) : Type 0 where
  halts : (y : List ℕ) → IsFinal p c → IsOutput c.tape y → Copies l c.tape.head y o → ComesOut p l i c o
  sticks : IsMachineStuck p c → o ≡ Stuck c.state (scanned c.tape) → ComesOut p l i c o
  runs_out : (d : Moment) → MachineRunsTo anywhere p c d → i ≡ l.steps → o ≡ Outside 2 Right → ComesOut p l i c o
  leaves : (d : Moment) (side : Side) → MachineRunsTo anywhere p c d → i < l.steps
      → IsBeyond l.left l.right side d.tape.head
      → o ≡ Outside 1 side → ComesOut p l i c o

-- The bounded run from the word makes i steps, all within the work tape and no more than the history holds, and ends
-- with this outcome.
pub record HasOutcome (p : Program) (word : List ℕ) (l : Limits) (i : ℕ) (o : Outcome) : Type 0 where
  pub moment : Moment
  pub run : AfterWithin (within l.left l.right) p word i moment
  pub in_time : i ≤ l.steps
  pub ends : ComesOut p l i moment o
