-- Runs of a machine from a word (Bennett 1973), and their outputs and endings (this project's own profile).
use Rattle.std.specs.Prelude.{◌≡◌, ◌≢◌, ℕ, suc, ◌<◌, ◌≤◌, pos, ◌+ℤ◌, List, [], ◌∷◌, length, slice_index}
use Rattle.bn_lists.specs.Runs.{Reaches}
use Rattle.bn_machine.specs.Tape.{Tape, cell, scanned}
use Rattle.bn_machine.specs.Window.{Room, anywhere}
use Rattle.bn_machine.specs.Machine.{Program, Moment, MachineRunsTo, GoesBy, IsFinal, IsMachineStuck, start}

-- c is the configuration after exactly i steps from the word, on an infinite tape
abbrev pub After : Program → List ℕ → ℕ → Moment → Type 0
After p word i c = Reaches (MachineRunsTo anywhere p) i (start p word) c

-- c is the configuration after exactly i steps from the word, each of which ends with the head within the window, if
-- there is one
abbrev pub AfterWithin : Room → Program → List ℕ → ℕ → Moment → Type 0
AfterWithin room p word i c = Reaches (MachineRunsTo room p) i (start p word) c

-- A run from c to d by the quintuples with these numbers, the last one first: the history of the run.
abbrev pub Follows : Room → Program → List ℕ → Moment → Moment → Type 0
Follows room p [] c d = c ≡ d
Follows room p (n ∷ ns) c d = (m : Moment) × Follows room p ns c m × GoesBy room p n m d

-- the word y is the longest one without blanks just right of the head
pub record IsOutput (t : Tape) (y : List ℕ) : Type 0 where
  pub letters : (k : ℕ) → k < length y → slice_index y k ≢ 0
  pub spelled : (k : ℕ) → k < length y → cell t (t.head +ℤ pos (suc k)) ≡ slice_index y k
  pub ended : cell t (t.head +ℤ pos (suc (length y))) ≡ 0

-- The ending of a run of at most n steps on an infinite tape.
pub data Ending : Type 0 where
  Halted : List ℕ → Ending
  Stuck : ℕ → ℕ → Ending
  Running : Ending

-- after i steps the run ends at c: in the final state with its output, where no quintuple matches, or because all n
-- steps are made
pub data EndsAt (p : Program) (n i : ℕ) (c : Moment) (e : Ending) : Type 0 where
  halts : (y : List ℕ) → IsFinal p c → IsOutput c.tape y → e ≡ Halted y → EndsAt p n i c e
  sticks : IsMachineStuck p c → e ≡ Stuck c.state (scanned c.tape) → EndsAt p n i c e
  runs : (d : Moment) → MachineRunsTo anywhere p c d → i ≡ n → e ≡ Running → EndsAt p n i c e

-- the machine's run from the word, of at most n steps, has this ending after i steps
pub record HasEnding (p : Program) (word : List ℕ) (n i : ℕ) (e : Ending) : Type 0 where
  pub moment : Moment
  pub run : After p word i moment
  pub in_time : i ≤ n
  pub ends : EndsAt p n i moment e
