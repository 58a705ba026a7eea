-- The circuit built from the table of Bennett's machine is the one that the one-tape machine is compiled to (Bennett
-- 1973 for the machine; the circuit and the texts are this project's own profile).
use Rattle.std.specs.Prelude.{◌≡◌, ℕ, List, []}
use Rattle.bn_circuits.specs.declared.place.Place.{Place}
use Rattle.bn_machine.specs.Outcome.{Limits}
use Rattle.bn_qtable.specs.Reading.{ReadsQuadruples}
use Rattle.bn_qtable.specs.Rows.{table_of}
use Rattle.bn_qtable.specs.TapeWords.{Letters, One}
use Rattle.bn_table.specs.Rows.{Named}
use Rattle.bn_bennett.specs.Printed.{translation_names}
use Rattle.bn_network.specs.Starts.{start_from, words_on}
use Rattle.bn_boards.specs.Boards.{board_start}
use Rattle.bn_boards.specs.Flats.{Flat, build_of, flat_start}
use Rattle.bn_reply.specs.TableReply.{ReadsStandard}
use Rattle.bn_reply.specs.declared.status.Status.TheVariants.{Done}
use Rattle.bn_reply_relations.specs.CompileReply.{CompileReplies}
use Rattle.bn_reply_relations.specs.ToldRuns.{IsGiven}
use Rattle.bn_reply_relations.specs.Windows.{ComesTo}
use Rattle.bn_reply_builds.specs.BuildReply.{BuildReplies, IsBuiltFor}
use Rattle.bn_reply_machines.specs.BennettReply.{bennett_text}

-- The table that `bennett` prints reads as Bennett's machine itself, with each number and name; its circuit is the one
-- that the one-tape machine is compiled to; and both have the same start.
pub record IsOneBoard (t : Named) (l : Limits) (symbols : List ℕ) (f : Flat) : Type 0 where
  pub reads : ReadsQuadruples (bennett_text t) (table_of f.translation.machine (translation_names t f.translation))
  pub built : IsBuiltFor f.translation.machine l (build_of f)
  pub start : board_start f.network.tables
      (start_from f.translation.machine f.limits (words_on f.translation.machine symbols [] [])) ≡ flat_start f

abbrev pub BoardsAreOne : Type 0
BoardsAreOne = (bytes word : List ℕ) (l : Limits) (t : Named) (symbols : List ℕ) (f : Flat)
    → IsGiven bytes word l t symbols → ComesTo t.machine l symbols f → IsOneBoard t l symbols f

-- The text that `compile` prints is the one that `build` prints for the table that `bennett` prints, byte for byte.
abbrev pub CompilingIsBuilding : Type 0
CompilingIsBuilding = (bytes word : List ℕ) (l : Limits) (text : List ℕ) (told : List Place)
    → CompileReplies word l bytes Done text told → (t : Named) → ReadsStandard bytes t
    → BuildReplies (One (Letters word)) l (bennett_text t) Done text told
