-- The answer of the command `plan`: the floor plan of the circuit that a configuration text spells (this project's own
-- profile).
use Rattle.std.specs.Prelude.{◌≡◌, ℕ, List, [], ◌∷◌, ◌++◌, codes, decimal, length}
use Rattle.bn_circuits.specs.declared.line.Wire.{Wire}
use Rattle.bn_circuits.specs.declared.place.Place.{Place}
use Rattle.bn_netlist_laws.specs.Sentences.{line_text}
use Rattle.bn_netlist_laws.specs.Spelling.{Spelling, Spelled}
use Rattle.bn_netlist_laws.specs.declared.version.Version.{Version}
use Rattle.bn_plan.specs.declared.tracked.Tracked.{Tracked}
use Rattle.bn_plan.specs.Wires.{AreWiresOf}
use Rattle.bn_plan.specs.Plans.{FloorPlan, IsFloorPlan}
use Rattle.bn_reply_relations.specs.CircuitReply.{Misspelled}
use Rattle.bn_reply.specs.Answering.{IsSettled}
use Rattle.bn_reply.specs.Lines.{line}
use Rattle.bn_reply.specs.declared.status.Status.{Status}
use Rattle.bn_reply.specs.declared.status.Status.TheVariants.{Done, Text}

-- the line of a wire: its output port, its input port, and its track
abbrev pub wire_line : Tracked → List ℕ
wire_line t = line (codes "wire " ∷ line_text t.from ∷ codes " " ∷ line_text t.to ∷ codes " track " ∷ decimal t.track
    ∷ [])

abbrev pub wire_lines : List Tracked → List ℕ
wire_lines [] = []
wire_lines (t ∷ ts) = wire_line t ++ wire_lines ts

-- the text of a floor plan of this many elements
abbrev pub plan_text : ℕ → FloorPlan → List ℕ
plan_text count f =
    line (codes "elements " ∷ decimal count ∷ [])
    ++ (line (codes "wires " ∷ decimal (length f.wires) ∷ [])
    ++ (line (codes "tracks " ∷ decimal f.tracks ∷ [])
    ++ (line (codes "densest " ∷ decimal f.densest ∷ [])
    ++ wire_lines f.wires)))

-- The text is that of the floor plan of a circuit of this many elements with this list of wires.
pub record TellsPlan (circuit : List Wire) (count : ℕ) (text : List ℕ) : Type 0 where
  pub wires : List Wire
  pub listed : AreWiresOf circuit wires
  pub plan : FloorPlan
  pub floor : IsFloorPlan wires plan
  pub written : text ≡ plan_text count plan

-- The bytes spell a configuration, in either version, and the text is that of the floor plan of its circuit.
pub record Planned (bytes text : List ℕ) : Type 0 where
  pub version : Version
  pub spelling : Spelling
  pub spelled : Spelled version spelling bytes
  pub tells : TellsPlan spelling.wires spelling.elements text

-- The answer of `plan`: the first fault of bytes that are no configuration text, or the floor plan. No place is
-- reported.
pub data PlanReplies (bytes : List ℕ) (status : Status) (text : List ℕ) (told : List Place) : Type 0 where
  misspelled : Misspelled bytes text → status ≡ Text → told ≡ [] → PlanReplies bytes status text told
  planned : Planned bytes text → status ≡ Done → told ≡ [] → PlanReplies bytes status text told

-- for all bytes, it has exactly one answer
abbrev pub PlanIsSettled : Type 0
PlanIsSettled = (bytes : List ℕ) → IsSettled (PlanReplies bytes)
