-- The result of opening bytes, a word and limits as a circuit.
use Rattle.std.specs.Prelude.{◌≡◌, ℕ, ◌<◌, ◌≤◌, List, [], length}
use Rattle.bn_circuits.specs.Circuits.{Circuit}
use Rattle.bn_circuits.specs.declared.place.Place.TheVariants.{Enter, Left}
use Rattle.bn_circuits.specs.RotaryNets.{rotary_circuit}
use Rattle.bn_machine.specs.Machine.{Program}
use Rattle.bn_machine.specs.Outcome.{Limits}
use Rattle.bn_netlist_laws.specs.Spelling.{Spelling}
use Rattle.bn_quad.specs.Quadruples.{Configuration, Quadruples}
use Rattle.bn_network.specs.Controls.{ControlState, IsNumbering}
use Rattle.bn_network.specs.Networks.{IsNetwork}
use Rattle.bn_network.specs.Starts.{start_from}
use Rattle.bn_circuits.specs.declared.net.TheConstants.{MOST_ELEMENTS}
use Rattle.bn_bennett.specs.Translation.{Translation, IsTranslation}
use Rattle.bn_table.specs.Rows.{Named}
use Rattle.bn_control.specs.Controlled.{IsWithinLimits}
use Rattle.bn_network_assembly.specs.Assembled as assembled
use Rattle.bn_network_assembly.specs.Assembled.{IsWordOf}
use Rattle.bn_boards.specs.Boards.{IsBoard, board_start, size}
use Rattle.bn_boards.specs.Layouts.{IsLayout, end_place}
use Rattle.bn_boards.specs.Flats.{Flat, flat_start}
use Rattle.bn_board.specs.Flattened.{Flattened, IsBoardKept, end_line, start_line}
use Rattle.bn_reply.specs.TableReply.{ReadsStandard, StandardReplies, WordReplies}
use Rattle.bn_reply.specs.Words.{IsSpelledBy}
use Rattle.bn_reply.specs.declared.reply.Reply.{Reply}
use Rattle.bn_reply.specs.declared.status.Status.TheVariants as statuses
use Rattle.bn_reply_relations.specs.ToldRuns.{IsGiven}
use Rattle.bn_reply_relations.specs.Windows.{ComesTo, CountsElements, WindowReplies, large_line}
use Rattle.bn_reply_boards.specs.declared.opening.OpenedMachine.{OpenedMachine}
use Rattle.bn_reply_boards.specs.declared.opening.OpenedMachine.TheVariants as machines
use Rattle.bn_reply_boards.specs.declared.opening.OpenedInput.{OpenedInput}
use Rattle.bn_reply_boards.specs.declared.opening.OpenedInput.TheVariants as inputs
use Rattle.bn_reply_boards.specs.declared.opening.OpenedWindow.{OpenedWindow}
use Rattle.bn_reply_boards.specs.declared.opening.OpenedWindow.TheVariants as windows

-- This is the circuit of this network, which is that of the machine in these limits with these states of its control,
-- at the start of this configuration; and it does not have too many elements.
pub record IsBoardFor (m : Quadruples) (l : Limits) (c : Configuration ℕ) (names : List ControlState)
    (network : Circuit) (b : Flattened) : Type 0 where
  pub numbering : IsNumbering m names
  pub is_network : IsNetwork m l names network
  pub is_board : IsBoard network (rotary_circuit b.net)
  pub is_layout : IsLayout m l names b.layout
  pub few : size network.tables ≤ MOST_ELEMENTS
  pub config : b.config ≡ board_start network.tables (start_from m l c)
  pub start : b.start ≡ start_line
  pub end : b.end ≡ end_line b.layout
  pub kept : IsBoardKept b

-- the circuit of the machine in these limits would have too many elements, and the reply says so
pub record IsTooLarge (m : Quadruples) (l : Limits) (reply : Reply) : Type 0 where
  pub count : ℕ
  pub counts : assembled.CountsElements m l count
  pub great : MOST_ELEMENTS < count
  pub text : reply.text.items ≡ large_line count
  pub status : reply.status ≡ statuses.Size

-- the circuit of a machine at the start of a configuration, or the answer if it is too large
abbrev pub IsOpenedBoard : Quadruples → Limits → Configuration ℕ → OpenedWindow → Type 0
IsOpenedBoard m l c (windows.Made b) =
    (names : List ControlState) × (network : Circuit) × IsBoardFor m l c names network b
IsOpenedBoard m l c (windows.Refused reply) = IsTooLarge m l reply

-- The machine, the word of these symbols and the limits have the network f, whose reversible machine is this
-- translation; and this is its circuit, at the start.
pub record IsMade (p : Program) (l : Limits) (symbols : List ℕ) (f : Flat) (t : Translation)
    (b : Flattened) : Type 0 where
  pub comes : ComesTo p l symbols f
  pub translation : f.translation ≡ t
  pub circuit : f.circuit ≡ rotary_circuit b.net
  pub layout : f.layout ≡ b.layout
  pub config : b.config ≡ flat_start f
  pub start : Enter b.start.element b.start.line ≡ (flat_start f).place
  pub end : Left b.end.element b.end.line ≡ end_place f.layout
  pub kept : IsBoardKept b

-- the circuit would have too many elements, and the reply says so
pub record IsLarge (p : Program) (l : Limits) (reply : Reply) : Type 0 where
  pub count : ℕ
  pub counts : CountsElements p l count
  pub great : MOST_ELEMENTS < count
  pub text : reply.text.items ≡ large_line count
  pub status : reply.status ≡ statuses.Size

-- the circuit of a given translation, or the answer if it is too large
abbrev pub IsOpenedWindow : Program → Limits → List ℕ → Translation → OpenedWindow → Type 0
IsOpenedWindow p l symbols t (windows.Made b) = (f : Flat) × IsMade p l symbols f t b
IsOpenedWindow p l symbols t (windows.Refused reply) = IsLarge p l reply

-- The bytes are this table, whose machine is in standard form and has this translation, which may be assembled; and
-- the word is spelled by these symbols, of which the translation's machine has a word.
pub record IsMachineAsked (bytes word : List ℕ) (t : Named) (m : Translation) (symbols : List ℕ) : Type 0 where
  pub reads : ReadsStandard bytes t
  pub spelled : IsSpelledBy t word symbols
  pub translates : IsTranslation t.machine m
  pub within : IsWithinLimits m.machine
  pub is_word : IsWordOf m.machine symbols

-- the machine and the symbols, or the answer for every report on them
abbrev pub IsOpenedMachine : List ℕ → List ℕ → OpenedMachine → Type 0
IsOpenedMachine bytes word (machines.Made t m symbols) = IsMachineAsked bytes word t m symbols.items
IsOpenedMachine bytes word (machines.Refused reply) =
    StandardReplies (λ t. WordReplies (λ symbols status text told. ⊥) t word) bytes reply.status reply.text.items []

-- the bytes, the word and the limits have this circuit, by this table and its machine's translation
pub record IsBoardAsked (bytes word : List ℕ) (l : Limits) (t : Named) (m : Translation)
    (b : Flattened) : Type 0 where
  pub symbols : List ℕ
  pub flat : Flat
  pub given : IsGiven bytes word l t symbols
  pub made : IsMade t.machine l symbols flat m b

-- the circuit, or the answer for every report on circuits
abbrev pub IsOpenedInput : List ℕ → List ℕ → Limits → OpenedInput → Type 0
IsOpenedInput bytes word l (inputs.Made t m b) = IsBoardAsked bytes word l t m b
IsOpenedInput bytes word l (inputs.Refused reply) =
    WindowReplies (λ t f status text told. ⊥) word l bytes reply.status reply.text.items []

-- a circuit as it is spelled
abbrev pub spelling_of_board : Flattened → Spelling
spelling_of_board b = record {
  elements = length b.net.elements;
  wires = b.net.wires;
  config = b.config;
  start = b.start;
  end = b.end;
}
