-- Runs of a translation's machine from a word, and how they end.
use Rattle.std.specs.Prelude.{◌≡◌, ◌≢◌, ℕ, ◌+◌, ◌*◌, List, [], length, All}
use Rattle.bn_lists.specs.Runs.{Reaches}
use Rattle.bn_machine.specs.Tape.{scanned, word_tape, blank_tape}
use Rattle.bn_machine.specs.Window.{new_window}
use Rattle.bn_machine.specs.Outcome as outcome
use Rattle.bn_machine.specs.Outcome.{Limits, Outcome}
use Rattle.bn_quad.specs.Quadruples.{Configuration, QuadruplesRunTo, Quadruples, Rooms, final_state_of, initial_of}
use Rattle.bn_quad.specs.Calls.{IsQuadTurn, configuration}
use Rattle.bn_quad.specs.declared.tapes.Tapes.{Tapes}
use Rattle.bn_quad.specs.declared.tapes.QuadTurn.{QuadTurn}
use Rattle.bn_quad.specs.declared.tapes.QuadTurn.TheVariants as turn
use Rattle.bn_bennett_laws.specs.Stages.{IsAfter, rooms_of}
use Rattle.bn_bennett_laws.specs.Steps.{EndsAt, Exit, Finished, Stopped, Leaving, HasNoFirstRead}
use Rattle.bn_bennett_laws.specs.declared.name.Name.TheVariants.{Compute}
use Rattle.bn_bennett.specs.Translation.{Translation, name_of}

-- ---- on infinite tapes, or within rooms

-- the start: the initial state, the word on tape 1, tapes 2 and 3 blank, all heads at 0
abbrev pub beginning_of : Translation → List ℕ → Configuration ℕ
beginning_of t word = record {
  state = initial_of t.machine.rules;
  one = word_tape word;
  two = blank_tape;
  three = blank_tape;
}

-- the end: the final state, the word on tape 1 again, tape 2 blank, y on tape 3, all heads at 0
abbrev pub ending_of : Translation → List ℕ → List ℕ → Configuration ℕ
ending_of t word y = record {
  state = final_state_of t.machine.rules;
  one = word_tape word;
  two = blank_tape;
  three = word_tape y;
}

-- from the word exactly n steps within these rooms lead to d
abbrev pub Runs : Translation → List ℕ → Rooms → ℕ → Configuration ℕ → Type 0
Runs t word rooms n d = Reaches (QuadruplesRunTo rooms t.machine) n (beginning_of t word) d

-- from the word, in these limits, the machine makes n steps to d, and its run ends there in this way
pub record Comes (t : Translation) (word : List ℕ) (l : Limits) (n : ℕ) (d : Configuration ℕ) (e : Exit) : Type 0 where
  pub run : Runs t word (rooms_of l) n d
  pub ends : EndsAt (rooms_of l) t.machine.rules (final_state_of t.machine.rules) d e

-- The machine's run from the word, in these limits, ends as the outcome says: halted with the output y, stuck in a
-- state at a symbol that no quadruple of that state reads, or where a head would leave its tape. The number i counts
-- the one-tape machine's own steps.
abbrev pub MachineEndsAs : Translation → List ℕ → Limits → ℕ → Outcome → Type 0
MachineEndsAs t word l i (outcome.Halted y) = All (λ s. s ≢ 0) y
    × Comes t word l (4 * i + 4 * length y + 5) (ending_of t word y) Finished
MachineEndsAs t word l i (outcome.Stuck state symbol) = (d : Configuration ℕ) × Comes t word l (2 * i) d Stopped
    × (name_of t d.state ≡ Compute state) × (scanned d.one ≡ symbol) × HasNoFirstRead t.machine.rules d
MachineEndsAs t word l i (outcome.Outside tape side) = (n : ℕ) × (d : Configuration ℕ)
    × Comes t word l n d (Leaving tape side) × IsAfter i n (name_of t d.state) d.two.head d.three.head

-- ---- call by call of `QuadMachine::step`

-- a state and three tapes in windows
pub record Stand : Type 0 where
  pub state : ℕ
  pub tapes : Tapes

abbrev pub stand : ℕ → Tapes → Stand
stand state tapes = record { state = state; tapes = tapes }

-- `step` returns `Moved` and goes from a to b
abbrev pub Moves : Quadruples → Stand → Stand → Type 0
Moves p a b = (quad : ℕ) × IsQuadTurn p (turn.Moved quad) a.state a.tapes b.state b.tapes

-- `step` returns this, and nothing changes
abbrev pub Answers : Quadruples → Stand → QuadTurn → Type 0
Answers p a answer = IsQuadTurn p answer a.state a.tapes a.state a.tapes

-- new tapes for the word within these limits
abbrev pub new_tapes : Limits → List ℕ → Tapes
new_tapes l word = record {
  one = new_window l.left l.right word;
  two = new_window 0 l.steps [];
  three = new_window 0 l.output [];
}

-- the same tapes with y on tape 3
abbrev pub ended_tapes : Limits → List ℕ → List ℕ → Tapes
ended_tapes l word y = record {
  one = new_window l.left l.right word;
  two = new_window 0 l.steps [];
  three = new_window 0 l.output y;
}

-- from the initial state, on new tapes for the word, n calls of `step` lead to b, and the next call returns this
-- answer
pub record Answered (t : Translation) (word : List ℕ) (l : Limits) (n : ℕ) (b : Stand)
    (answer : QuadTurn) : Type 0 where
  pub moved : Reaches (Moves t.machine) n (stand (initial_of t.machine.rules) (new_tapes l word)) b
  pub answers : Answers t.machine b answer

-- The calls of `step` end as the outcome says: `Final` with the word, a blank history and the output y; `Stuck` in a
-- state at a symbol that no quadruple of that state reads; or `Left`, at this tape and this end.
abbrev pub CallsEndAs : Translation → List ℕ → Limits → ℕ → Outcome → Type 0
CallsEndAs t word l i (outcome.Halted y) = All (λ s. s ≢ 0) y
    × Answered t word l (4 * i + 4 * length y + 5) (stand (final_state_of t.machine.rules) (ended_tapes l word y))
    turn.Final
CallsEndAs t word l i (outcome.Stuck state symbol) = (b : Stand) × Answered t word l (2 * i) b turn.Stuck
    × (name_of t b.state ≡ Compute state) × (scanned b.tapes.one.tape ≡ symbol)
    × HasNoFirstRead t.machine.rules (configuration b.state b.tapes)
CallsEndAs t word l i (outcome.Outside tape side) = (n : ℕ) × (b : Stand) × Answered t word l n b (turn.Left tape side)
    × IsAfter i n (name_of t b.state) b.tapes.two.tape.head b.tapes.three.tape.head
