-- The sources of the text of a view: a table's names and letters, and a translation's states.
use Rattle.std.specs.Prelude.{◌≡◌, ℕ, ◌<◌, List}
use Rattle.bn_circuits.specs.declared.config.Config.{Config}
use Rattle.bn_netlist_laws.specs.Sentences.{line_of_place}
use Rattle.bn_table.specs.Rows.{Named}
use Rattle.bn_bennett.specs.Translation.{Translation}
use Rattle.bn_bennett.specs.declared.translated.MachineState.{MachineState}
use Rattle.bn_bennett.specs.declared.translated.MachineState.TheVariants.{AtState, Within}
use Rattle.bn_boards.specs.Flats.{Flat}
use Rattle.bn_reply_boards.specs.Shown.{HasNames, HaveLetters}
use Rattle.bn_view.specs.Viewed.{IsViewOf}
use Rattle.bn_view.specs.declared.layers.Layers.{Layers}
use Rattle.bn_reply_views.specs.ViewText.{view_text}

-- the table has a name for the state, if there is one
abbrev pub IsNamedState : Named → MachineState → Type 0
IsNamedState t (AtState j) = j < t.machine.states
IsNamedState t (Within m) = Unit {0}

-- the layers can be written: the place is a line of an element, and everything shown has a name or a letter
pub record CanBeWritten (t : Named) (m : Translation) (v : Layers) : Type 0 where
  pub place : (line_of_place v.place).line < 4
  pub exit : HasNames t m v.exit
  pub state : v.state < m.machine.states
  pub machine : IsNamedState t v.machine
  pub one : HaveLetters t 1 v.tapes.one.cells
  pub three : HaveLetters t 3 v.tapes.three.cells

-- the text is that of the view of f if its circuit has reached d
abbrev pub TellsLayers : Named → Flat → Config → List ℕ → Type 0
TellsLayers t f d text = (v : Layers) × IsViewOf f d v × (text ≡ view_text t f v)
