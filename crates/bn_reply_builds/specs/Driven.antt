-- What is reported of a circuit that is driven (this project's own profile).
use Rattle.std.specs.Prelude.{◌≡◌, ℕ, List, length, Option, Some, None}
use Rattle.bn_circuits.specs.Stepping.{places}
use Rattle.bn_circuits.specs.declared.place.Place.{Place}
use Rattle.bn_circuits.specs.declared.place.Place.TheVariants.{Enter}
use Rattle.bn_quad.specs.Quadruples.{Configuration}
use Rattle.bn_qtable.specs.Rows.{QuadTable}
use Rattle.bn_bennett_laws.specs.Steps.{Exit, Finished, Stopped, Leaving}
use Rattle.bn_network.specs.Starts.{FitsWindow, start_from}
use Rattle.bn_board.specs.Flattened.{Flattened}
use Rattle.bn_boards.specs.Builds.{Build, IsBuild, build_elements, start_of}
use Rattle.bn_boards.specs.Exits.{BoardLeaves}
use Rattle.bn_reply_builds.specs.Drives.{Drives}
use Rattle.bn_reply_builds.specs.DriveText.{drive_text}
use Rattle.bn_reply.specs.declared.reply.Reply.{Reply}
use Rattle.bn_reply.specs.declared.status.Status.{Status}
use Rattle.bn_reply.specs.declared.status.Status.TheVariants as statuses
use Rattle.bn_reply_builds.specs.declared.outcome.Outcome.{Outcome}
use Rattle.bn_reply_builds.specs.declared.outcome.Outcome.TheVariants.{Inside}
use Rattle.bn_reply_builds.specs.Outcomes.{outcome_by, outcome_line, outcome_status}

-- ---- a run

-- the status by the exit
abbrev pub drive_status : Option Exit → Status
drive_status None = statuses.Inside
drive_status (Some Finished) = statuses.Done
drive_status (Some Stopped) = statuses.Stuck
drive_status (Some (Leaving tape s)) = statuses.Window

-- The text is the answer to the build of a table's machine at its start at c and a greatest number of element steps,
-- the status is that of its exit, and the places are those of the steps.
pub record TellsDrive (most : ℕ) (t : QuadTable) (c : Configuration ℕ) (f : Build) (status : Status) (text : List ℕ)
    (told : List Place) : Type 0 where
  pub exit : Option Exit
  pub drives : Drives t f c (start_from f.machine f.limits c) (start_of f c) most exit text
  pub status_is : status ≡ drive_status exit
  pub told_is : told ≡ places f.circuit most (start_of f c)

-- ---- a board

-- What is reported of a table's circuit in a configuration: by which exit the signal left, whatever the run of its
-- machine, or where it is inside.
pub record TellsOutcome (t : QuadTable) (b : Flattened) (steps : ℕ) (r : Reply) : Type 0 where
  pub outcome : Outcome
  pub inside : (e l : ℕ) → b.config.place ≡ Enter e l → outcome ≡ Inside (record { element = e; line = l })
  pub left : (f : Build) (d : Configuration ℕ) (e : Exit) → IsBuild f → f.machine ≡ t.machine → f.layout ≡ b.layout
      → FitsWindow f.machine f.limits d → BoardLeaves f b.config.place b.config.states d e → outcome ≡ outcome_by d e
  pub status : r.status ≡ outcome_status outcome
  pub text : (f : Build) → f.layout ≡ b.layout → build_elements f ≡ length b.net.elements
      → r.text.items ≡ drive_text t f (outcome_line t outcome) steps b.config
