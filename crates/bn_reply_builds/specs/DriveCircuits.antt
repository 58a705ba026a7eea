-- What `build` and `drive` print, by the circuit: its run leaves in exactly its cost by the exit that the machine's own
-- run names, and steps back restore (Bennett 1973 and Morita 2017; the texts are this project's own profile).
use Rattle.std.specs.Prelude.{◌≡◌, ℕ, ◌+◌, ◌*◌, ◌≤◌, List}
use Rattle.bn_lists.specs.Runs.{Reaches}
use Rattle.bn_circuits.specs.Circuits.{Circuit, Goes, clock}
use Rattle.bn_circuits.specs.Stepping.{back, run}
use Rattle.bn_circuits.specs.declared.config.Config.{Config}
use Rattle.bn_circuits.specs.declared.place.Place.{Place}
use Rattle.bn_machine.specs.Outcome.{Limits}
use Rattle.bn_circuits.specs.declared.net.TheConstants.{MOST_ELEMENTS}
use Rattle.bn_quad.specs.Quadruples.{Configuration}
use Rattle.bn_qtable.specs.Rows.{QuadTable}
use Rattle.bn_qtable.specs.TapeWords.{TapeWords}
use Rattle.bn_bennett_laws.specs.Steps.{Exit}
use Rattle.bn_network.specs.Starts.{start_from, words_on}
use Rattle.bn_network_assembly.specs.Assembled.{CountsElements}
use Rattle.bn_boards.specs.Builds.{Build, build_elements, start_of}
use Rattle.bn_boards.specs.BuildRuns.{BuildRunsTo, EndsInWindow}
use Rattle.bn_reply.specs.declared.status.Status.{Status}
use Rattle.bn_reply_builds.specs.BuildReply.{BuildReplies, IsBuiltFor, TellsBuild}
use Rattle.bn_reply_builds.specs.DriveHeadline.{IsGiven}
use Rattle.bn_reply_builds.specs.DriveReply.{DriveReplies}
use Rattle.bn_reply_builds.specs.Driven.{TellsDrive}
use Rattle.bn_network.specs.declared.limits.TheConstants.{MOST_DRIVE_STEPS}

-- from c, if r + j steps are made and j undone, the circuit is where it was after r; after none it is at c
abbrev pub Returns : Circuit → Config → Type 0
Returns k c = (r j : ℕ) → Reaches (Goes k) (r + j) c (run k c (r + j)) → back k (run k c (r + j)) j ≡ run k c r

-- However the machine's own run from c in the window ends, the circuit of f runs from its start in exactly its cost to
-- that exit, if the clock has room; and the steps that it makes can be undone.
pub record RunsAndReturns (f : Build) (c : Configuration ℕ) : Type 0 where
  pub runs : (n : ℕ) (d : Configuration ℕ) (e : Exit) → EndsInWindow f c n d e
      → 4 * build_elements f + 48 * build_elements f * (n + 1) ≤ clock
      → BuildRunsTo f (start_from f.machine f.limits c) (start_of f c) n d e
  pub returns : Returns f.circuit (start_of f c)

-- There is a build of the table's machine in the window, and for each the text is that of its circuit at the start.
pub record TellsBoards (t : QuadTable) (l : Limits) (c : Configuration ℕ) (status : Status) (text : List ℕ)
    (told : List Place) : Type 0 where
  pub build : Build
  pub built : IsBuiltFor t.machine l build
  pub tells : (f : Build) → IsBuiltFor t.machine l f → TellsBuild c f status text told × RunsAndReturns f c

-- There is a build of the table's machine in the window, and for each the text is that of its run.
pub record TellsRuns (most : ℕ) (t : QuadTable) (l : Limits) (c : Configuration ℕ) (status : Status) (text : List ℕ)
    (told : List Place) : Type 0 where
  pub build : Build
  pub built : IsBuiltFor t.machine l build
  pub tells : (f : Build) → IsBuiltFor t.machine l f → TellsDrive most t c f status text told × RunsAndReturns f c

-- If the circuit does not have too many elements, `build` answers its text.
abbrev pub BuildsTellTheirBoards : Type 0
BuildsTellTheirBoards =
    (words : TapeWords) (l : Limits) (bytes : List ℕ) (status : Status) (text : List ℕ) (told : List Place)
    → BuildReplies words l bytes status text told
    → (t : QuadTable) (one two three : List ℕ) → IsGiven words bytes l t one two three
    → (count : ℕ) → CountsElements t.machine l count → count ≤ MOST_ELEMENTS
    → TellsBoards t l (words_on t.machine one two three) status text told

-- If the circuit does not have too many elements, `drive` answers its run.
abbrev pub DrivesTellTheirBoards : Type 0
DrivesTellTheirBoards =
    (words : TapeWords) (l : Limits) (most : ℕ) (bytes : List ℕ) (status : Status) (text : List ℕ) (told : List Place)
    → most ≤ MOST_DRIVE_STEPS → DriveReplies words l most bytes status text told
    → (t : QuadTable) (one two three : List ℕ) → IsGiven words bytes l t one two three
    → (count : ℕ) → CountsElements t.machine l count → count ≤ MOST_ELEMENTS
    → TellsRuns most t l (words_on t.machine one two three) status text told
