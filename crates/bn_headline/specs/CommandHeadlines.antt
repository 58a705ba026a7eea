-- What further commands print, each in its own terms (Bennett 1973 for the machines, Morita 2017 for the elements;
-- words and texts are this project's own profile). Each assumes an input within the limit: a table whose machine is in
-- standard form, or a text that spells a configuration of a circuit.
use Rattle.std.specs.Prelude.{◌≡◌, ℕ, ◌≤◌, List, [], ◌∷◌, length, Option, codes, decimal}
use Rattle.bn_base.specs.Number.{greatest}
use Rattle.bn_base.specs.declared.limits.TheConstants.{MOST_COUNT}
use Rattle.bn_circuits.specs.Stepping.{back, run}
use Rattle.bn_io.specs.Told.{Grows}
use Rattle.bn_machine.specs.Run.{Ending, HasEnding}
use Rattle.bn_netlist_laws.specs.Spelling.{IsTextOf, Spelled, Spelling, circuit_of, moved_to}
use Rattle.bn_netlist_laws.specs.declared.version.Version.{Version}
use Rattle.bn_reply.specs.TableReply.{ReadsStandard}
use Rattle.bn_reply.specs.Words.{IsSpelledBy}
use Rattle.bn_reply.specs.declared.limits.TheConstants.{MOST_INPUT_BYTES}
use Rattle.bn_reply.specs.declared.status.Status.{Status}
use Rattle.bn_reply.specs.declared.status.Status.TheVariants.{Done}
use Rattle.bn_reply_machines.specs.BennettReply.{bennett_text}
use Rattle.bn_reply_machines.specs.MachineReply.{ending_status, ending_text}
use Rattle.bn_table.specs.Rows.{Named}

-- If the arguments are `machine`, a word and a number n, the bytes read as a table whose machine is in standard form,
-- and the word is made of its letters, then however the machine's own run of at most n steps ends, after i of them, the
-- sink received the lines that report it.
unfoldable pub MachineCommand : List (List ℕ) → List ℕ → Status → Option (List ℕ) → Option (List ℕ) → Type 0
MachineCommand words bytes status taken took =
    (word : List ℕ) (n : ℕ) → words ≡ codes "machine" ∷ (61 ∷ word) ∷ decimal n ∷ [] → n ≤ MOST_COUNT
    → length bytes ≤ MOST_INPUT_BYTES
    → (t : Named) (symbols : List ℕ) → ReadsStandard bytes t → IsSpelledBy t word symbols
    → (i : ℕ) (e : Ending) → HasEnding t.machine symbols n i e
    → (status ≡ ending_status e) × Grows taken took (ending_text t i e)

-- If the argument is `bennett`, and the bytes read as a table whose machine is in standard form, the sink received the
-- table of its reversible machine.
unfoldable pub BennettCommand : List (List ℕ) → List ℕ → Status → Option (List ℕ) → Option (List ℕ) → Type 0
BennettCommand words bytes status taken took =
    words ≡ codes "bennett" ∷ [] → length bytes ≤ MOST_INPUT_BYTES
    → (t : Named) → ReadsStandard bytes t → (status ≡ Done) × Grows taken took (bennett_text t)

-- the sink received the text of this configuration in this version
pub record TookSpelling (v : Version) (s : Spelling) (status : Status) (taken took : Option (List ℕ)) : Type 0 where
  pub text : List ℕ
  pub is_text : IsTextOf v s text
  pub grows : Grows taken took text
  pub status_is : status ≡ Done

-- If the arguments are `step` and a number e, and the bytes spell a configuration of a circuit, the sink received the
-- text, in the same version, of the configuration to which the circuit goes in e steps, or in as many as can be made.
unfoldable pub StepCommand : List (List ℕ) → List ℕ → Status → Option (List ℕ) → Option (List ℕ) → Type 0
StepCommand words bytes status taken took =
    (e : ℕ) → words ≡ codes "step" ∷ decimal e ∷ [] → e ≤ greatest → length bytes ≤ MOST_INPUT_BYTES
    → (v : Version) (s : Spelling) → Spelled v s bytes
    → TookSpelling v (moved_to s (run (circuit_of s) s.config e)) status taken took

-- The same with `back`, and e steps back, or as many as can be made.
unfoldable pub BackCommand : List (List ℕ) → List ℕ → Status → Option (List ℕ) → Option (List ℕ) → Type 0
BackCommand words bytes status taken took =
    (e : ℕ) → words ≡ codes "back" ∷ decimal e ∷ [] → e ≤ greatest → length bytes ≤ MOST_INPUT_BYTES
    → (v : Version) (s : Spelling) → Spelled v s bytes
    → TookSpelling v (moved_to s (back (circuit_of s) s.config e)) status taken took
