-- Laws on drives. `Laws` at the end is the contract of `drive_laws`.
use Rattle.std.specs.Prelude.{◌≡◌, ℕ, ◌+◌, ◌*◌, ◌≤◌, List, [], map, Option}
use Rattle.bn_lists.specs.Runs.{Reaches}
use Rattle.bn_circuits.specs.Circuits.{clock, Goes, IsStuck}
use Rattle.bn_circuits.specs.Situations.{Situation}
use Rattle.bn_circuits.specs.declared.config.Config.{Config}
use Rattle.bn_quad.specs.Quadruples.{Configuration, Quadruples, IsQuadMachine}
use Rattle.bn_quad.specs.Overlap.{IsDeterministic}
use Rattle.bn_qtable.specs.Rows.{QuadTable}
use Rattle.bn_bennett_laws.specs.Stages.{IsStandardMachine, IsSpelledBy}
use Rattle.bn_bennett_laws.specs.Steps.{Exit}
use Rattle.bn_erase_laws.specs.Erasing.{IsWord}
use Rattle.bn_erase.specs.Joint.{Joint, IsJoint}
use Rattle.bn_erase.specs.Made.{Erasure, IsErasing}
use Rattle.bn_erase.specs.Printed.{names_of}
use Rattle.bn_renumbering.specs.Renumbering.{Renumbering, IsRenumbering, IsRenumbered, ReadsBack}
use Rattle.bn_boards.specs.Builds.{Build, IsBuild, IsStart, build_elements}
use Rattle.bn_network.specs.Starts.{words_on}
use Rattle.bn_reply_builds.specs.Drives.{Drives}
use Rattle.bn_reply_builds.specs.RenumberedBuilds.{TellsRenumbered}
use Rattle.bn_reply_builds.specs.ErasingBoards.{ErasingBoardTells}

-- the clock has room for the greatest number of steps and for those of one more step of the machine
abbrev pub DrivesHaveOneAnswer : Type 0
DrivesHaveOneAnswer =
    (t : QuadTable) (f : Build) → IsBuild f → (c : Configuration ℕ) (s : Situation) (at_start : Config)
    → IsStart f c s at_start → (most : ℕ) → most + 48 * build_elements f ≤ clock
    → ((exit : Option Exit) × (text : List ℕ) × Drives t f c s at_start most exit text)
    × ((exit other : Option Exit) (text again : List ℕ) → Drives t f c s at_start most exit text
    → Drives t f c s at_start most other again → (exit ≡ other) × (text ≡ again))

-- the circuit stops at z after t steps
abbrev pub RenumberedBuildsTell : Type 0
RenumberedBuildsTell =
    (k : Renumbering) (f : Build) (m : Quadruples) → IsBuild f → IsRenumbering k f.machine m → IsDeterministic m.rules
    → (c x : Configuration ℕ) (s : Situation) (at_start : Config) → IsStart f c s at_start → IsRenumbered k c x
    → (t : ℕ) (z : Config) → Reaches (Goes f.circuit) t at_start z → IsStuck f.circuit z
    → t + 48 * build_elements f ≤ clock → TellsRenumbered k f m c x s at_start t z

abbrev pub WordsAreRenumbered : Type 0
WordsAreRenumbered =
    (k : Renumbering) (p m : Quadruples) → IsQuadMachine p → IsRenumbering k p m → (one two three : List ℕ)
    → IsRenumbered k (words_on p one two three) (words_on m (map k.one one) (map k.two two) (map k.three three))

-- z are the symbols of x by the numbers of the table that is read, and its machine is built
abbrev pub ErasingBoardsErase : Type 0
ErasingBoardsErase =
    (j : Joint) (e : Erasure) (t : QuadTable) (f : Build) → IsJoint j → IsErasing j.first j.second e
    → IsStandardMachine j.first → IsStandardMachine j.second → (back : ReadsBack e.machine (names_of j e) t)
    → IsBuild f → f.machine ≡ t.machine
    → (z x : List ℕ) → map back.renumbering.one z ≡ x → IsSpelledBy j.first x → IsWord x
    → (s : Situation) (at_start : Config) → IsStart f (words_on f.machine z [] []) s at_start
    → (n : ℕ) (d : Config) → Reaches (Goes f.circuit) n at_start d → IsStuck f.circuit d
    → n + 48 * build_elements f ≤ clock
    → ErasingBoardTells back.renumbering j e f (words_on f.machine z [] []) s at_start x n d

pub record Laws : Type 0 where
  -- For a table, a build, a start and a greatest number of element steps for which the clock has room, there is
  -- exactly one answer, with a text and an exit or none.
  pub drives_have_one_answer : DrivesHaveOneAnswer
  -- For a machine that was printed and read again with other numbers: if its circuit stops, it reports how the run of
  -- the printed machine has ended.
  pub renumbered_builds_tell : RenumberedBuildsTell
  -- Three words are also three words with the other numbers: the starts differ only in the numbers.
  pub words_are_renumbered : WordsAreRenumbered
  -- For the machine read from what `erase` prints of two machines in standard form, started with the word x, and a
  -- circuit that has stopped: the signal left by the end only if each machine halts on the other's word, and then its
  -- tapes are blank but for the output on tape 3; if both halt in this way, the signal left by the end or by a
  -- window's end.
  pub erasing_boards_erase : ErasingBoardsErase
