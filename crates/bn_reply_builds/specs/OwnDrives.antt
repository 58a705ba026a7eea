-- Whatever is given to `drive`, the machine has its own run in the window, and the answer reports that run.
use Rattle.std.specs.Prelude.{◌≡◌, ℕ, ◌<◌, ◌≤◌, List}
use Rattle.bn_circuits.specs.declared.place.Place.{Place}
use Rattle.bn_machine.specs.Outcome.{Limits}
use Rattle.bn_quad.specs.Quadruples.{Configuration}
use Rattle.bn_qtable.specs.Rows.{QuadTable}
use Rattle.bn_qtable.specs.TapeWords.{TapeWords}
use Rattle.bn_bennett_laws.specs.Steps.{Exit}
use Rattle.bn_reply.specs.declared.status.Status.{Status}
use Rattle.bn_reply_builds.specs.DriveHeadline.{IsGiven, IsOwnRun, TellsDriven}
use Rattle.bn_reply_builds.specs.DriveReply.{DriveReplies}
use Rattle.bn_network.specs.declared.limits.TheConstants.{MOST_DRIVE_STEPS}
use Rattle.bn_boards.specs.OwnRuns.{situation_count}

-- the machine's own run in the window from these words: its steps, fewer than the window has configurations, and how it
-- ends
pub record HasOwnRun (t : QuadTable) (l : Limits) (one two three : List ℕ) : Type 0 where
  pub steps : ℕ
  pub last : Configuration ℕ
  pub exit : Exit
  pub own : IsOwnRun t l one two three steps last exit
  pub few : steps < situation_count t.machine l

-- it exists, whatever is given
abbrev pub OwnRunsAreThere : Type 0
OwnRunsAreThere =
    (words : TapeWords) (bytes : List ℕ) (l : Limits) (t : QuadTable) (one two three : List ℕ)
    → IsGiven words bytes l t one two three → HasOwnRun t l one two three

-- and there is only one
abbrev pub OwnRunsAreOne : Type 0
OwnRunsAreOne =
    (words : TapeWords) (bytes : List ℕ) (l : Limits) (t : QuadTable) (one two three : List ℕ)
    → IsGiven words bytes l t one two three → (m n : ℕ) (b d : Configuration ℕ) (e g : Exit)
    → IsOwnRun t l one two three m b e → IsOwnRun t l one two three n d g → (m ≡ n) × (b ≡ d) × (e ≡ g)

-- the answer of `drive` reports it
abbrev pub DrivesTellTheirRun : Type 0
DrivesTellTheirRun =
    (words : TapeWords) (l : Limits) (most : ℕ) (bytes : List ℕ) (status : Status) (text : List ℕ) (told : List Place)
    → most ≤ MOST_DRIVE_STEPS → DriveReplies words l most bytes status text told
    → (t : QuadTable) (one two three : List ℕ) → IsGiven words bytes l t one two three
    → (run : HasOwnRun t l one two three) × TellsDriven most t l run.steps run.last run.exit status text
