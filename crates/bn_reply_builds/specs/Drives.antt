-- The answer of the command `drive` to a build, a start and a greatest number of element steps (this project's own
-- profile).
use Rattle.std.specs.Prelude.{◌≡◌, ℕ, ◌-◌, ◌≤◌, List, Option, Some, None}
use Rattle.bn_lists.specs.Runs.{Reaches}
use Rattle.bn_circuits.specs.Circuits.{Goes}
use Rattle.bn_circuits.specs.Situations.{Situation}
use Rattle.bn_circuits.specs.Stepping.{run}
use Rattle.bn_circuits.specs.declared.config.Config.{Config}
use Rattle.bn_circuits.specs.declared.place.Place.TheVariants.{Enter}
use Rattle.bn_quad.specs.Quadruples.{Configuration}
use Rattle.bn_qtable.specs.Rows.{QuadTable}
use Rattle.bn_bennett_laws.specs.Steps.{Exit}
use Rattle.bn_boards.specs.Layouts.{moments}
use Rattle.bn_boards.specs.Builds.{Build}
use Rattle.bn_boards.specs.BuildRuns.{EndsInWindow, BuildRunsTo}
use Rattle.bn_reply_builds.specs.DriveText.{drive_text, drive_exit_line, inside_line}

-- The signal leaves within this many steps by the exit that the machine's own bounded run determines, and the text
-- reports it; or after this many steps the signal is inside, without an exit, and the text says where, with the
-- moments so far less one, which is the number of the machine's steps so far, and 0 before the first moment.
pub data Drives (t : QuadTable) (f : Build) (c : Configuration ℕ) (s : Situation) (at_start : Config) (most : ℕ)
    (exit : Option Exit) (text : List ℕ) : Type 0 where
  leaves : (n : ℕ) (d : Configuration ℕ) (e : Exit) → EndsInWindow f c n d e → (ran : BuildRunsTo f s at_start n d e)
      → ran.cost ≤ most → exit ≡ Some e
      → text ≡ drive_text t f (drive_exit_line t d e) n (run f.circuit at_start ran.cost)
      → Drives t f c s at_start most exit text
  stays : (element l : ℕ) → Reaches (Goes f.circuit) most at_start (run f.circuit at_start most)
      → (run f.circuit at_start most).place ≡ Enter element l → exit ≡ None
      → text ≡ drive_text t f (inside_line (Enter element l)) (moments f.layout f.circuit most at_start - 1)
      (run f.circuit at_start most)
      → Drives t f c s at_start most exit text
