-- The answer of the command `compile`: the configuration text of the circuit of a machine and a word in a window, at
-- its start (Morita 2017 for the elements; the circuit and the text are this project's own profile).
use Rattle.std.specs.Prelude.{◌≡◌, ◌↔◌, ℕ, List, [], Some}
use Rattle.bn_circuits.specs.Circuits.{Circuit, target}
use Rattle.bn_circuits.specs.declared.config.Config.{Config}
use Rattle.bn_circuits.specs.declared.line.Line.{Line}
use Rattle.bn_circuits.specs.declared.place.Place.{Place}
use Rattle.bn_circuits.specs.declared.place.Place.TheVariants.{Enter, Left}
use Rattle.bn_machine.specs.Outcome.{Limits}
use Rattle.bn_netlist_laws.specs.Spelling.{Spelling, Spelled}
use Rattle.bn_netlist_laws.specs.declared.version.Version.TheVariants.{Two}
use Rattle.bn_boards.specs.Boards.{IsBoardWire, size}
use Rattle.bn_boards.specs.Layouts.{Layout, end_place}
use Rattle.bn_boards.specs.Flats.{Flat, flat_start}
use Rattle.bn_reply.specs.Answering.{IsSettled}
use Rattle.bn_reply.specs.declared.status.Status.{Status}
use Rattle.bn_reply.specs.declared.status.Status.TheVariants.{Done}
use Rattle.bn_network.specs.Limits.{AreSmall}
use Rattle.bn_reply_relations.specs.Windows.{WindowReplies}

-- The text spells the circuit of a network, with its own wires and no others, at its start; the start is the port that
-- the signal is about to enter, and the end the port by which it leaves if the machine halts.
pub record IsBoardSpelling (network : Circuit) (layout : Layout) (at_start : Config) (s : Spelling) : Type 0 where
  pub elements : s.elements ≡ size network.tables
  pub wires : (from to : Line) → (target s.wires from ≡ Some to) ↔ IsBoardWire network from to
  pub config : s.config ≡ at_start
  pub start : Enter s.start.element s.start.line ≡ at_start.place
  pub end : Left s.end.element s.end.line ≡ end_place layout

-- the text is that of the circuit of a network at its start, in version 2, and no place is reported
pub record TellsBoard (network : Circuit) (layout : Layout) (at_start : Config) (status : Status) (text : List ℕ)
    (told : List Place) : Type 0 where
  pub spelling : Spelling
  pub board : IsBoardSpelling network layout at_start spelling
  pub spelled : Spelled Two spelling text
  pub done : status ≡ Done
  pub silent : told ≡ []

-- the same for the circuit of a machine's translation
abbrev pub IsFlatSpelling : Flat → Spelling → Type 0
IsFlatSpelling f = IsBoardSpelling f.network f.layout (flat_start f)

abbrev pub TellsStart : Flat → Status → List ℕ → List Place → Type 0
TellsStart f = TellsBoard f.network f.layout (flat_start f)

-- the answer of `compile` to a word, limits and these bytes
abbrev pub CompileReplies : List ℕ → Limits → List ℕ → Status → List ℕ → List Place → Type 0
CompileReplies = WindowReplies (λ t. TellsStart)

-- for all words, limits within their bounds, and bytes, it has exactly one answer
abbrev pub CompileIsSettled : Type 0
CompileIsSettled = (word : List ℕ) (l : Limits) (bytes : List ℕ) → AreSmall l → IsSettled (CompileReplies word l bytes)
