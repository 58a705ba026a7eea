-- The least window in which a machine's bounded run ends as the machine itself does (Bennett 1973 for the machine; the
-- window is this project's own profile).
use Rattle.std.specs.Prelude.{◌≢◌, ℕ, ◌≤◌, List, length, ⊤}
use Rattle.bn_machine.specs.Machine.{Program}
use Rattle.bn_machine.specs.Outcome.{HasOutcome, Limits, Outcome, Halted, Outside, Stuck}
use Rattle.bn_machine.specs.Run as free
use Rattle.bn_machine.specs.Run.{Ending, HasEnding}

-- the outcome is an end of the machine itself: no tape has run out of room
abbrev pub IsOwnEnd : Outcome → Type 0
IsOwnEnd (Halted y) = ⊤
IsOwnEnd (Stuck state symbol) = ⊤
IsOwnEnd (Outside tape side) = ⊥

-- The limits fit: the word has room on the work tape, and the bounded run from it halts or is stuck.
pub record FitsRun (p : Program) (word : List ℕ) (l : Limits) : Type 0 where
  pub room : length word ≤ l.right
  pub steps : ℕ
  pub outcome : Outcome
  pub comes_out : HasOutcome p word l steps outcome
  pub own : IsOwnEnd outcome

-- each of the four numbers of l is at most that of k
pub record AreAtMost (l k : Limits) : Type 0 where
  pub left : l.left ≤ k.left
  pub right : l.right ≤ k.right
  pub steps : l.steps ≤ k.steps
  pub output : l.output ≤ k.output

-- The limits fit, and each of their numbers is the least of all limits that fit.
pub record IsLeastWindow (p : Program) (word : List ℕ) (l : Limits) : Type 0 where
  pub fits : FitsRun p word l
  pub least : (k : Limits) → FitsRun p word k → AreAtMost l k

-- the machine's run from the word, on an infinite tape, halts or is stuck within n steps
pub record EndsWithin (p : Program) (word : List ℕ) (n : ℕ) : Type 0 where
  pub steps : ℕ
  pub ending : Ending
  pub comes_out : HasEnding p word n steps ending
  pub ended : ending ≢ free.Running
