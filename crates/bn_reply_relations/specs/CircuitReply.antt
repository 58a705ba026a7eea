-- The answers of the commands `step` and `back` to a configuration text of either version.
use Rattle.std.specs.Prelude.{◌≡◌, ℕ, List, [], ◌∷◌, ◌++◌, decimal, codes}
use Rattle.bn_circuits.specs.Circuits.{Circuit}
use Rattle.bn_circuits.specs.declared.place.Place.{Place}
use Rattle.bn_circuits.specs.declared.config.Config.{Config}
use Rattle.bn_circuits.specs.Stepping.{run, back, places, places_back}
use Rattle.bn_netlist_laws.specs.Spelling.{Spelling, circuit_of, moved_to, IsTextOf, Spelled}
use Rattle.bn_netlist_laws.specs.Faults.{Fault, IsFirstFault, malformed, too_many, no_element, out_of_order, end_wired}
use Rattle.bn_netlist_laws.specs.Faults.{left_wired, start_fed, second_source, spelled_out}
use Rattle.bn_netlist_laws.specs.declared.version.Version.{Version}
use Rattle.bn_reply.specs.Answering.{IsSettled}
use Rattle.bn_reply.specs.declared.status.Status.{Status}
use Rattle.bn_reply.specs.declared.status.Status.TheVariants.{Done, Text}

-- the text of a fault
abbrev pub fault_name : Fault → List ℕ
fault_name malformed = codes "syntax"
fault_name too_many = codes "too many"
fault_name no_element = codes "target"
fault_name out_of_order = codes "order"
fault_name end_wired = codes "end wired"
fault_name left_wired = codes "left wired"
fault_name start_fed = codes "start fed"
fault_name second_source = codes "two sources"
fault_name spelled_out = codes "spelling"

-- the line that refuses a text for this fault in the line with this number
abbrev pub fault_text : ℕ → Fault → List ℕ
fault_text line fault = codes "text: line " ++ (decimal line ++ (codes " " ++ (fault_name fault ++ 10 ∷ [])))

-- The bytes are no configuration text, and the text names the first line with a fault and its first fault.
pub record Misspelled (bytes text : List ℕ) : Type 0 where
  pub line : ℕ
  pub fault : Fault
  pub first : IsFirstFault bytes line fault
  pub written : text ≡ fault_text line fault

-- The bytes spell a configuration; the text is that of the configuration that its circuit reaches, with the same start
-- and end and in the same version, and the places on the way are reported to a watch.
pub record Walked (goes : Circuit → Config → Config) (tells : Circuit → Config → List Place) (bytes text : List ℕ)
    (told : List Place) : Type 0 where
  pub version : Version
  pub spelling : Spelling
  pub spelled : Spelled version spelling bytes
  pub written : IsTextOf version (moved_to spelling (goes (circuit_of spelling) spelling.config)) text
  pub places : told ≡ tells (circuit_of spelling) spelling.config

-- The answer of such a command: the first fault of bytes that are no configuration text, or that text.
pub data CircuitReplies (goes : Circuit → Config → Config) (tells : Circuit → Config → List Place) (bytes : List ℕ)
    (status : Status) (text : List ℕ) (told : List Place) : Type 0 where
  misspelled : Misspelled bytes text → status ≡ Text → told ≡ [] → CircuitReplies goes tells bytes status text told
  walked : Walked goes tells bytes text told → status ≡ Done → CircuitReplies goes tells bytes status text told

-- `step` makes at most e steps, and `back` undoes at most e steps
abbrev pub StepReplies : ℕ → List ℕ → Status → List ℕ → List Place → Type 0
StepReplies e = CircuitReplies (λ k c. run k c e) (λ k c. places k e c)

abbrev pub BackReplies : ℕ → List ℕ → Status → List ℕ → List Place → Type 0
BackReplies e = CircuitReplies (λ k c. back k c e) (λ k c. places_back k e c)

-- for all numbers of steps and bytes, each of them has exactly one answer
abbrev pub CircuitIsSettled : Type 0
CircuitIsSettled = (e : ℕ) (bytes : List ℕ) → IsSettled (StepReplies e bytes) × IsSettled (BackReplies e bytes)
