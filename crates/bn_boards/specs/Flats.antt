-- The result of compiling a machine, a word and limits: the machine's translation with its control, its network, its
-- circuit and its layout.
use Rattle.std.specs.Prelude.{◌≡◌, ◌≢◌, ℕ, ◌≤◌, List, length, All}
use Rattle.bn_circuits.specs.Alike.{AreAlike}
use Rattle.bn_circuits.specs.Circuits.{Circuit}
use Rattle.bn_circuits.specs.declared.config.Config.{Config}
use Rattle.bn_circuits.specs.declared.net.TheConstants.{MOST_ELEMENTS}
use Rattle.bn_machine.specs.Machine.{Program}
use Rattle.bn_machine.specs.Outcome.{Limits}
use Rattle.bn_quad.specs.Quadruples.{Quadruples}
use Rattle.bn_bennett_laws.specs.Stages.{IsStandardMachine, IsSpelledBy}
use Rattle.bn_bennett.specs.Translation.{Translation, IsTranslation}
use Rattle.bn_circuits.specs.Situations.{Situation}
use Rattle.bn_network.specs.Controls.{ControlState, IsNumbering}
use Rattle.bn_network.specs.Limits.{AreSmall}
use Rattle.bn_network.specs.Networks.{IsNetwork, network_start}
use Rattle.bn_boards.specs.Boards.{IsBoard, board_start, size}
use Rattle.bn_boards.specs.Builds.{Build}
use Rattle.bn_boards.specs.Layouts.{Layout, IsLayout}

-- the machine of a translation with its control, its network in these limits, and its circuit
pub record Flat : Type 0 where
  pub translation : Translation
  pub limits : Limits
  pub word : List ℕ
  pub names : List ControlState
  pub network : Circuit
  pub circuit : Circuit
  pub layout : Layout

abbrev pub machine_of : Flat → Quadruples
machine_of f = f.translation.machine

-- the build of the translation's machine of quadruples
abbrev pub build_of : Flat → Build
build_of f = record {
  machine = f.translation.machine;
  limits = f.limits;
  names = f.names;
  network = f.network;
  circuit = f.circuit;
  layout = f.layout;
}

pub record IsFlatOf (p : Program) (word : List ℕ) (l : Limits) (f : Flat) : Type 0 where
  pub translation : IsTranslation p f.translation
  pub word_is : f.word ≡ word
  pub limits_are : f.limits ≡ l
  pub numbering : IsNumbering f.translation.machine f.names
  pub is_network : IsNetwork f.translation.machine l f.names f.network
  pub is_board : IsBoard f.network f.circuit
  pub is_layout : IsLayout f.translation.machine l f.names f.layout

-- the starts of the network and of the circuit
abbrev pub situation_at_start : Flat → Situation
situation_at_start f = network_start f.translation.machine f.limits f.word

abbrev pub flat_start : Flat → Config
flat_start f = board_start f.network.tables (situation_at_start f)

-- the accepted inputs: a machine in standard form, a word of its letters that fits, and limits and a number of
-- elements within the greatest numbers
pub record IsAccepted (p : Program) (word : List ℕ) (l : Limits) (f : Flat) : Type 0 where
  pub standard : IsStandardMachine p
  pub letters : IsSpelledBy p word
  pub nonblank : All (λ s. s ≢ 0) word
  pub fits : length word ≤ l.right
  pub small : AreSmall l
  pub few : size f.network.tables ≤ MOST_ELEMENTS

-- two circuits of one machine, word and limits: the same up to the order of wires
pub record AreSameFlats (f g : Flat) : Type 0 where
  pub translation : f.translation ≡ g.translation
  pub names : f.names ≡ g.names
  pub network : AreAlike f.network g.network
  pub circuit : AreAlike f.circuit g.circuit
  pub layout : f.layout ≡ g.layout
  pub start : flat_start f ≡ flat_start g
