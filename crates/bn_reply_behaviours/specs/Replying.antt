-- The results of the functions of this crate, in the code's own terms.
use Rattle.std.specs.Prelude.{◌≡◌, ℕ, ◌<◌, ◌++◌, ◌∷◌, [], Bool, true, false, List, Option, length}
use Rattle.bn_lists.specs.Lists.{Has}
use Rattle.bn_circuits.specs.Circuits.{Circuit, source, target}
use Rattle.bn_circuits.specs.Behaviours.{IsFreeInput, IsFreeOutput}
use Rattle.bn_circuits.specs.declared.line.Line.{Line}
use Rattle.bn_netlist_laws.specs.Sentences.{line_text}
use Rattle.bn_behaviour.specs.PortNames.{PortNames}
use Rattle.bn_behaviour.specs.declared.counted.CountedMove.{CountedMove}
use Rattle.bn_behaviour.specs.declared.ports.Ports.{Ports}
use Rattle.bn_reply_behaviours.specs.BehaviourReply.{behaviour_text}
use Rattle.bn_reply_behaviours.specs.CrossingsReply.{crossings_text}
use Rattle.bn_reply_behaviours.specs.NamedPorts.{AreNamed, ArePortsFor, IsMisnamed}
use Rattle.bn_reply_behaviours.specs.NamedPorts.{HasMisnamed}
use Rattle.bn_reply_behaviours.specs.ExploringReply.{closed_line}
use Rattle.bn_reply.specs.declared.reply.Reply.{Reply}
use Rattle.bn_reply_behaviours.specs.declared.form.Form.{Form}
use Rattle.bn_reply_behaviours.specs.declared.form.Form.TheVariants.{Table, Crossings}
use Rattle.bn_reply_behaviours.specs.declared.naming.Naming.{Naming}
use Rattle.bn_reply_behaviours.specs.declared.naming.Naming.TheVariants.{Named, Misnamed}
use Rattle.bn_reply_behaviours.specs.declared.side.Side.{Side}
use Rattle.bn_reply_behaviours.specs.declared.side.Side.TheVariants.{Input, Output}
use Rattle.bn_reply_behaviours.specs.declared.lines.Lines.{Lines}
use Rattle.bn_reply_behaviours.specs.declared.lines.Lines.TheVariants as lines
use Rattle.bn_reply.specs.declared.status.Status.TheVariants as statuses

-- the ports without a wire on this side
abbrev pub IsFree : Circuit → Side → Line → Type 0
IsFree k Input l = IsFreeInput k l
IsFree k Output l = IsFreeOutput k l

-- the other end of the wire of a port on this side
abbrev pub end_of : Circuit → Side → Line → Option Line
end_of k Input l = source k.wires l
end_of k Output l = target k.wires l

-- the result of reading names: the ports that they name, or the place of the first wrong one
abbrev pub IsNaming : Circuit → Side → List (List ℕ) → Naming → Type 0
IsNaming k side names (Named ports) = AreNamed (IsFree k side) names ports
IsNaming k side names (Misnamed place) = IsMisnamed (IsFree k side) names place

-- the names are those of these ports, and then the rest
pub record AreNamedSoFar (free : Line → Type 0) (names : List (List ℕ)) (ports : List Line) (rest : List (List ℕ)) :
    Type 0 where
  pub front : List (List ℕ)
  pub split : names ≡ front ++ rest
  pub named : AreNamed free front ports

-- the name is that of a free port that is new, and it is added
pub record IsAdded (free : Line → Type 0) (name : List ℕ) (old new : List Line) : Type 0 where
  pub port : Line
  pub free_port : free port
  pub named : name ≡ line_text port
  pub fresh : Has old port → ⊥
  pub added : new ≡ old ++ port ∷ []

-- it is added; or it is not that of a free port, or names a port of the list, and nothing has changed
abbrev pub IsAddedIf : (Line → Type 0) → List ℕ → List Line → List Line → Bool → Type 0
IsAddedIf free name old new true = IsAdded free name old new
IsAddedIf free name old new false = (new ≡ old) × ((l : Line) → free l → name ≡ line_text l → Has old l)

-- the ports that are lines, or the line that reports the first wrong name
abbrev pub AreLines : Circuit → Option PortNames → Lines → Type 0
AreLines k names (lines.Ports ports) = ArePortsFor k names ports
AreLines k names (lines.Refused reply) = (reply.status ≡ statuses.Word) × HasMisnamed k names reply.text.items

-- how a command writes the entries
abbrev pub form_text : Form → Ports → List CountedMove → List ℕ
form_text Table = behaviour_text
form_text Crossings = crossings_text

-- the entry's ports exist, and each is one of the four of its element
pub record IsNamedBy (ports : Ports) (m : CountedMove) : Type 0 where
  pub input : m.line < length ports.inputs
  pub output : m.out < length ports.outputs
  pub input_port : (l : Line) → Has ports.inputs l → l.line < 4
  pub output_port : (l : Line) → Has ports.outputs l → l.line < 4

abbrev pub AreNamedBy : Ports → List CountedMove → Type 0
AreNamedBy ports moves = (m : CountedMove) → Has moves m → IsNamedBy ports m

-- the answer for these entries: that there is none, or their text
pub data IsWritten (form : Ports → List CountedMove → List ℕ) (ports : Ports) (moves : List CountedMove) (r : Reply) :
    Type 0 where
  empty : moves ≡ [] → r.status ≡ statuses.Machine → r.text.items ≡ closed_line → IsWritten form ports moves r
  written : 0 < length moves → r.status ≡ statuses.Done → r.text.items ≡ form ports moves → IsWritten form ports moves r
