-- The answers to the refusals of the reader of configuration texts, in the code's own terms.
use Rattle.std.specs.Prelude.{◌≡◌, ℕ, List, [], ◌∷◌, codes, decimal}
use Rattle.bn_netlist_laws.specs.Faults.{malformed, too_many, no_element, out_of_order, end_wired, left_wired}
use Rattle.bn_netlist_laws.specs.Faults.{start_fed, second_source, spelled_out}
use Rattle.bn_netlist.specs.declared.line_refusal.NetlistRefusal.{NetlistRefusal}
use Rattle.bn_netlist.specs.declared.line_refusal.NetlistRefusal.TheVariants.{Syntax, Order, Target, TwoSources}
use Rattle.bn_netlist.specs.declared.line_refusal.NetlistRefusal.TheVariants.{StartFed, EndWired, LeftWired, TooMany}
use Rattle.bn_netlist.specs.declared.line_refusal.NetlistRefusal.TheVariants.{Spelling, NoMemory}
use Rattle.bn_reply.specs.Lines.{line}
use Rattle.bn_reply_relations.specs.CircuitReply.{fault_text}

-- the line that refuses a text for what is wrong with this line
abbrev pub wrong_line : ℕ → List ℕ → List ℕ
wrong_line number what = line (codes "text: line " ∷ decimal number ∷ codes " " ∷ what ∷ [])

-- the line of a refusal
abbrev pub IsTextRefused : NetlistRefusal → List ℕ → Type 0
IsTextRefused (Syntax number) text = text ≡ fault_text number malformed
IsTextRefused (Order number) text = text ≡ fault_text number out_of_order
IsTextRefused (Target number) text = text ≡ fault_text number no_element
IsTextRefused (TwoSources number) text = text ≡ fault_text number second_source
IsTextRefused (StartFed number) text = text ≡ fault_text number start_fed
IsTextRefused (EndWired number) text = text ≡ fault_text number end_wired
IsTextRefused (LeftWired number) text = text ≡ fault_text number left_wired
IsTextRefused (TooMany number) text = text ≡ fault_text number too_many
IsTextRefused (Spelling number) text = text ≡ fault_text number spelled_out
IsTextRefused NoMemory text = ⊥
