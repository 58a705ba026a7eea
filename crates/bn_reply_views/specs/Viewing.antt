-- How a circuit is shown while a script is played on it.
use Rattle.std.specs.Prelude.{ℕ, List}
use Rattle.bn_circuits.specs.Circuits.{Goes}
use Rattle.bn_lists.specs.Runs.{Reaches}
use Rattle.bn_circuits.specs.declared.config.Config.{Config}
use Rattle.bn_circuits.specs.RotaryNets.{rotary_circuit}
use Rattle.bn_machine.specs.Outcome.{Limits}
use Rattle.bn_table.specs.Rows.{Named}
use Rattle.bn_bennett.specs.Translation.{Translation, IsTranslation}
use Rattle.bn_boards.specs.declared.exit.Exit.{Exit}
use Rattle.bn_boards.specs.Layouts.{IsExit}
use Rattle.bn_boards.specs.Flats.{Flat}
use Rattle.bn_board.specs.Flattened.{Flattened, origin}
use Rattle.bn_reply_boards.specs.Shown.{HasNames}
use Rattle.bn_view.specs.Viewed.{IsBoardFor}
use Rattle.bn_reply_views.specs.Showing.{TellsLayers}

-- The circuit is that of a table's machine and of this translation, and the table has a name for every exit that its
-- layout finds on its run.
pub record MayShow (t : Named) (m : Translation) (b : Flattened) : Type 0 where
  pub translates : IsTranslation t.machine m
  pub word : List ℕ
  pub limits : Limits
  pub flat : Flat
  pub is_for : IsBoardFor t.machine word limits flat m b
  pub names : (d : Config) → Reaches (Goes (rotary_circuit b.net)) d.steps (origin b) d → (e : Exit)
      → IsExit b.layout d.place e → HasNames t m e

-- the text is that of the layers of the circuit, for some word and limits
abbrev pub ShowsLayers : Named → Translation → Flattened → List ℕ → Type 0
ShowsLayers t m b text =
    (word : List ℕ) (l : Limits) (f : Flat) → IsBoardFor t.machine word l f m b → TellsLayers t f b.config text
