-- Runs of machines of quadruples in a window end (Bennett 1973 for the quadruples; the window is own to this
-- project).
use Rattle.std.specs.Prelude.{◌≡◌, ℕ, ◌+◌, ◌*◌, ◌<◌, ◌^◌, List}
use Rattle.bn_lists.specs.Runs.{Reaches}
use Rattle.bn_machine.specs.Outcome.{Limits}
use Rattle.bn_quad.specs.Quadruples.{Configuration, Quadruples, IsQuadMachine, QuadruplesRunTo, initial_of}
use Rattle.bn_quad.specs.Quadruples.{final_state_of}
use Rattle.bn_quad.specs.Overlap.{IsDeterministic, IsReversible, HasNoFlaw, initial_flaw}
use Rattle.bn_bennett_laws.specs.Stages.{rooms_of}
use Rattle.bn_bennett_laws.specs.Steps.{EndsAt, Exit}
use Rattle.bn_network.specs.Controls.{symbol_count}
use Rattle.bn_network.specs.Moments.{HasLetters}
use Rattle.bn_network.specs.Starts.{AreInputs, FitsWindow, words_on}

-- the number of contents and head positions of a tape of z symbols in its window
abbrev pub tape_count : ℕ → ℕ → ℕ → ℕ
tape_count z left right = z ^ (left + right + 1) * (left + right + 1)

-- the number of configurations of a machine in these limits: of its state and each tape
abbrev pub situation_count : Quadruples → Limits → ℕ
situation_count m l =
    m.states * (tape_count (symbol_count m 1) l.left l.right
    * (tape_count (symbol_count m 2) 0 l.steps * tape_count (symbol_count m 3) 0 l.output))

-- The machine's own run in the window from c makes this number of steps, fewer than the window has configurations,
-- and ends there in this way.
pub record OwnRun (m : Quadruples) (l : Limits) (c : Configuration ℕ) : Type 0 where
  pub steps : ℕ
  pub last : Configuration ℕ
  pub exit : Exit
  pub runs : Reaches (QuadruplesRunTo (rooms_of l) m) steps c last
  pub ends : EndsAt (rooms_of l) m.rules (final_state_of m.rules) last exit
  pub few : steps < situation_count m l
  pub fits : FitsWindow m l last

-- If no two quadruples overlap in domain, no two overlap in range, and none leads to the initial state, the run ends.
abbrev pub OwnRunsEnd : Type 0
OwnRunsEnd =
    (m : Quadruples) (l : Limits) → IsQuadMachine m → IsDeterministic m.rules → IsReversible m.rules
    → HasNoFlaw (initial_flaw m.rules) m.rules → (c : Configuration ℕ) → c.state ≡ initial_of m.rules
    → FitsWindow m l c → OwnRun m l c

-- the same from words on the tapes
abbrev pub OwnRunsFromWordsEnd : Type 0
OwnRunsFromWordsEnd =
    (m : Quadruples) (l : Limits) → IsQuadMachine m → IsDeterministic m.rules → IsReversible m.rules
    → HasNoFlaw (initial_flaw m.rules) m.rules → HasLetters m → (one two three : List ℕ) → AreInputs m l one two three
    → OwnRun m l (words_on m one two three)

-- any two such runs from one start are equal
abbrev pub OwnRunsAreOne : Type 0
OwnRunsAreOne = (m : Quadruples) (l : Limits) → IsDeterministic m.rules → (c : Configuration ℕ) (a b : OwnRun m l c)
    → (a.steps ≡ b.steps) × (a.last ≡ b.last) × (a.exit ≡ b.exit)
