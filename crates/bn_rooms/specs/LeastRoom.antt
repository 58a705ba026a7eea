-- The least window in which the run of a machine of quadruples ends as the machine itself does: tape 1 from -left to
-- right, tape 2 from 0 to `steps`, tape 3 from 0 to `output` (Bennett 1973 for the quadruples; the window is this
-- project's own profile).
use Rattle.std.specs.Prelude.{ℕ, ◌≤◌, List, length, ⊤}
use Rattle.bn_lists.specs.Runs.{Reaches}
use Rattle.bn_machine.specs.Outcome.{Limits}
use Rattle.bn_extents.specs.LeastWindow.{AreAtMost}
use Rattle.bn_quad.specs.Quadruples.{Configuration, Quadruples, QuadruplesRunTo, final_state_of}
use Rattle.bn_bennett_laws.specs.Stages.{rooms_of}
use Rattle.bn_bennett_laws.specs.Steps.{EndsAt, Exit, Finished, Leaving, Stopped}
use Rattle.bn_network.specs.Starts.{words_on}

-- the exit is an end of the machine itself: no tape has run out of room
abbrev pub IsOwnEnd : Exit → Type 0
IsOwnEnd Finished = ⊤
IsOwnEnd Stopped = ⊤
IsOwnEnd (Leaving tape side) = ⊥

-- The limits fit: each word has room on its tape, and the run from them within the limits halts or is stuck.
pub record FitsRun (p : Quadruples) (one two three : List ℕ) (l : Limits) : Type 0 where
  pub on_one : length one ≤ l.right
  pub on_two : length two ≤ l.steps
  pub on_three : length three ≤ l.output
  pub steps : ℕ
  pub last : Configuration ℕ
  pub exit : Exit
  pub run : Reaches (QuadruplesRunTo (rooms_of l) p) steps (words_on p one two three) last
  pub ends : EndsAt (rooms_of l) p.rules (final_state_of p.rules) last exit
  pub own : IsOwnEnd exit

-- The limits fit, and each of their numbers is the least of all limits that fit.
pub record IsLeastRoom (p : Quadruples) (one two three : List ℕ) (l : Limits) : Type 0 where
  pub fits : FitsRun p one two three l
  pub least : (k : Limits) → FitsRun p one two three k → AreAtMost l k
