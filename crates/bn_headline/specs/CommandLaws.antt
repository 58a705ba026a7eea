-- What the replies of further commands report of an input that has a reading.
use Rattle.std.specs.Prelude.{◌≡◌, ℕ, List}
use Rattle.bn_circuits.specs.Stepping.{back, run}
use Rattle.bn_circuits.specs.declared.place.Place.{Place}
use Rattle.bn_machine.specs.Run.{Ending, HasEnding}
use Rattle.bn_netlist_laws.specs.Spelling.{IsTextOf, Spelled, Spelling, circuit_of, moved_to}
use Rattle.bn_netlist_laws.specs.declared.version.Version.{Version}
use Rattle.bn_reply.specs.TableReply.{ReadsStandard}
use Rattle.bn_reply.specs.Words.{IsSpelledBy}
use Rattle.bn_reply.specs.declared.status.Status.{Status}
use Rattle.bn_reply.specs.declared.status.Status.TheVariants.{Done}
use Rattle.bn_reply_relations.specs.CircuitReply.{BackReplies, StepReplies}
use Rattle.bn_reply_machines.specs.BennettReply.{BennettReplies, bennett_text}
use Rattle.bn_reply_machines.specs.MachineReply.{MachineReplies, ending_status, ending_text}
use Rattle.bn_table.specs.Rows.{Named}

-- the reply of `machine` reports how the machine's own run ends
abbrev pub MachineRepliesTell : Type 0
MachineRepliesTell =
    (word : List ℕ) (n : ℕ) (bytes : List ℕ) (status : Status) (text : List ℕ) (told : List Place)
    → MachineReplies word n bytes status text told
    → (t : Named) (symbols : List ℕ) → ReadsStandard bytes t → IsSpelledBy t word symbols
    → (i : ℕ) (e : Ending) → HasEnding t.machine symbols n i e
    → (status ≡ ending_status e) × (text ≡ ending_text t i e)

-- the reply of `bennett` is the table of the reversible machine
abbrev pub BennettRepliesTell : Type 0
BennettRepliesTell =
    (bytes : List ℕ) (status : Status) (text : List ℕ) (told : List Place) → BennettReplies bytes status text told
    → (t : Named) → ReadsStandard bytes t → (status ≡ Done) × (text ≡ bennett_text t)

-- the reply of `step` is the text of the configuration to which the circuit goes
abbrev pub StepRepliesTell : Type 0
StepRepliesTell =
    (e : ℕ) (bytes : List ℕ) (status : Status) (text : List ℕ) (told : List Place)
    → StepReplies e bytes status text told → (v : Version) (s : Spelling) → Spelled v s bytes
    → (status ≡ Done) × IsTextOf v (moved_to s (run (circuit_of s) s.config e)) text

-- that of `back` is the one of the configuration from which it comes
abbrev pub BackRepliesTell : Type 0
BackRepliesTell =
    (e : ℕ) (bytes : List ℕ) (status : Status) (text : List ℕ) (told : List Place)
    → BackReplies e bytes status text told → (v : Version) (s : Spelling) → Spelled v s bytes
    → (status ≡ Done) × IsTextOf v (moved_to s (back (circuit_of s) s.config e)) text
