-- The signal of the circuit that erases its input leaves (Bennett 1973, his last construction; the words, the window
-- and the texts are this project's own profile).
use Rattle.std.specs.Prelude.{◌≡◌, ℕ, ◌+◌, ◌*◌, ◌^◌, ◌<◌, ◌≤◌, List, [], ◌∷◌, ◌++◌, Some, codes}
use Rattle.bn_circuits.specs.declared.place.Place.{Place}
use Rattle.bn_machine.specs.Outcome.{Limits}
use Rattle.bn_circuits.specs.declared.net.TheConstants.{MOST_ELEMENTS}
use Rattle.bn_quad.specs.Quadruples.{Configuration}
use Rattle.bn_qtable.specs.Rows.{QuadTable}
use Rattle.bn_qtable.specs.TapeWords.{Letters, One}
use Rattle.bn_table.specs.Rows.{Named}
use Rattle.bn_bennett_laws.specs.Steps.{Exit}
use Rattle.bn_erase.specs.Joint.{Joint, joined}
use Rattle.bn_erase_laws.specs.declared.name.ErasingName.{ErasingName}
use Rattle.bn_network_assembly.specs.Assembled.{CountsElements}
use Rattle.bn_network.specs.Starts.{start_from, words_on}
use Rattle.bn_boards.specs.Builds.{Build, start_of}
use Rattle.bn_boards.specs.BuildRuns.{BuildRunsTo}
use Rattle.bn_reply.specs.Lines.{line}
use Rattle.bn_reply.specs.declared.status.Status.{Status}
use Rattle.bn_reply.specs.declared.status.Status.TheVariants.{Inside, Size}
use Rattle.bn_reply_relations.specs.RunText.{elements_line, quadruple_line, steps_line}
use Rattle.bn_reply_relations.specs.Windows.{large_line}
use Rattle.bn_reply_builds.specs.BuildReply.{IsBuiltFor}
use Rattle.bn_reply_builds.specs.DriveHeadline.{IsGiven}
use Rattle.bn_reply_builds.specs.DriveReply.{DriveReplies}
use Rattle.bn_reply_builds.specs.Driven.{drive_status}
use Rattle.bn_reply_builds.specs.ErasedDrives.{output_lines}
use Rattle.bn_network.specs.declared.limits.TheConstants.{MOST_DRIVE_STEPS}
use Rattle.bn_erase_laws.specs.EraseWindows.{BothHaltIn, EndsIn}

-- ---- the machines

-- In the window the machines of the two tables, over one alphabet, halt each on the other's word.
abbrev pub TablesHaltIn : Named → Named → List ℕ → Limits → ℕ → ℕ → List ℕ → Type 0
TablesHaltIn t u = BothHaltIn (joined t u).first (joined t u).second

-- In the window the erasing machine of both makes n steps from x to d, and ends there by this exit.
abbrev pub TablesEndIn : Named → Named → List ℕ → Limits → ℕ → Configuration ErasingName → Exit → Type 0
TablesEndIn t u = EndsIn (joined t u).first (joined t u).second

-- ---- what is told

-- the lines of the end: the elements, the exit, the element steps, the machine's steps, and y alone on the tapes
abbrev pub erased_end : Joint → Limits → List ℕ → ℕ → ℕ → ℕ → List ℕ
erased_end j l y count cost n =
    elements_line count ++ (line (codes "exit end" ∷ []) ++ (steps_line cost ++ (quadruple_line n
    ++ output_lines j l y)))

-- The signal leaves by this exit in exactly this many element steps, from n, the machine's steps, to a bound. For every
-- greatest number of element steps: if the cost is within it, that exit is reported in such a text; otherwise the
-- signal is inside.
pub record LeavesBy (tells : ℕ → Status → List ℕ → List Place → Type 0) (count n : ℕ) (e : Exit)
    (is_text : ℕ → List ℕ → Type 0) (cost : ℕ) : Type 0 where
  pub above : n ≤ cost
  pub below : cost ≤ 4 * count + 48 * count * (n + 1)
  pub few : cost ≤ 2 ^ 52
  pub left : (most : ℕ) (status : Status) (text : List ℕ) (told : List Place) → most ≤ MOST_DRIVE_STEPS
      → tells most status text told → cost ≤ most → (status ≡ drive_status (Some e)) × is_text cost text
  pub inside : (most : ℕ) (status : Status) (text : List ℕ) (told : List Place) → most ≤ MOST_DRIVE_STEPS
      → tells most status text told → most < cost → status ≡ Inside

-- A circuit with too many elements is refused with their number; the signal of any other leaves.
pub record CircuitLeaves (tells : ℕ → Status → List ℕ → List Place → Type 0) (count n : ℕ) (e : Exit)
    (is_text : ℕ → List ℕ → Type 0) : Type 0 where
  pub large : MOST_ELEMENTS < count → (most : ℕ) (status : Status) (text : List ℕ) (told : List Place)
      → most ≤ MOST_DRIVE_STEPS → tells most status text told → (status ≡ Size) × (text ≡ large_line count)
  pub leaves : count ≤ MOST_ELEMENTS → (cost : ℕ) × LeavesBy tells count n e is_text cost

-- The table can be driven with the word in the window; each of its circuits runs in exactly its cost to this exit, and
-- `drive` reports that exit and that cost.
pub record DriveLeaves (word table : List ℕ) (l : Limits) (n : ℕ) (e : Exit) (is_text : ℕ → ℕ → List ℕ → Type 0) :
    Type 0 where
  pub read : QuadTable
  pub one : List ℕ
  pub given : IsGiven (One (Letters word)) table l read one [] []
  pub count : ℕ
  pub counts : CountsElements read.machine l count
  pub final : Configuration ℕ
  pub runs : (f : Build) → IsBuiltFor read.machine l f
      → BuildRunsTo f (start_from f.machine f.limits (words_on read.machine one [] []))
      (start_of f (words_on read.machine one [] [])) n final e
  pub told : (f : Build) (h : IsBuiltFor read.machine l f)
      → LeavesBy (λ most. DriveReplies (One (Letters word)) l most table) count n e (is_text count) (runs f h).cost
  pub circuit : CircuitLeaves (λ most. DriveReplies (One (Letters word)) l most table) count n e (is_text count)
