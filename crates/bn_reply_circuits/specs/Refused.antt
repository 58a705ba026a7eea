-- The answers to the refusals of the readers, in the code's own terms.
use Rattle.std.specs.Prelude.{◌≡◌, ℕ, List, [], ◌∷◌, ◌++◌, Option, Result, decimal, codes, IfOk}
use Rattle.bn_lists.specs.declared.memory.NoMemory.{NoMemory as WantOfMemory}
use Rattle.bn_netlist.specs.declared.refusal.FromRefusal.{FromRefusal}
use Rattle.bn_netlist.specs.declared.refusal.FromRefusal.TheVariants as reading
use Rattle.bn_netlist_laws.specs.Faults.{malformed, too_many, no_element, out_of_order, end_wired, left_wired}
use Rattle.bn_netlist_laws.specs.Faults.{start_fed, second_source, spelled_out}
use Rattle.bn_netlist.specs.declared.line_refusal.NetlistRefusal.{NetlistRefusal}
use Rattle.bn_netlist.specs.declared.line_refusal.NetlistRefusal.TheVariants.{Syntax, Order, Target, TwoSources}
use Rattle.bn_netlist.specs.declared.line_refusal.NetlistRefusal.TheVariants.{StartFed, EndWired, LeftWired, TooMany}
use Rattle.bn_netlist.specs.declared.line_refusal.NetlistRefusal.TheVariants.{Spelling, NoMemory}
use Rattle.bn_rsm.specs.declared.refusal.RsmRefusal.TheVariants as clash
use Rattle.bn_rsm.specs.declared.table_refusal.RsmTableRefusal.{RsmTableRefusal}
use Rattle.bn_rsm.specs.declared.table_refusal.RsmTableRefusal.TheVariants as faults
use Rattle.bn_reply_relations.specs.CircuitReply.{fault_text}
use Rattle.bn_reply_circuits.specs.RealiseReply.{clash_line, rsm_fault_line}
use Rattle.bn_reply.specs.Ends.{Finishes, FinishesReply}
use Rattle.bn_reply.specs.Streams.{read_fault_text, size_text}
use Rattle.bn_reply.specs.declared.reply.Reply.{Reply}
use Rattle.bn_reply.specs.declared.status.Status.{Status}
use Rattle.bn_reply.specs.declared.status.Status.TheVariants as statuses

-- the line that refuses a text for a fault of the line with this number
abbrev pub line_text : ℕ → List ℕ → List ℕ
line_text line what = codes "text: line " ++ (decimal line ++ (codes " " ++ (what ++ 10 ∷ [])))

-- the fault and the line of a refusal
abbrev pub IsRefused : NetlistRefusal → Status → List ℕ → Type 0
IsRefused (Syntax line) status text = (status ≡ statuses.Text) × (text ≡ fault_text line malformed)
IsRefused (Order line) status text = (status ≡ statuses.Text) × (text ≡ fault_text line out_of_order)
IsRefused (Target line) status text = (status ≡ statuses.Text) × (text ≡ fault_text line no_element)
IsRefused (TwoSources line) status text = (status ≡ statuses.Text) × (text ≡ fault_text line second_source)
IsRefused (StartFed line) status text = (status ≡ statuses.Text) × (text ≡ fault_text line start_fed)
IsRefused (EndWired line) status text = (status ≡ statuses.Text) × (text ≡ fault_text line end_wired)
IsRefused (LeftWired line) status text = (status ≡ statuses.Text) × (text ≡ fault_text line left_wired)
IsRefused (TooMany line) status text = (status ≡ statuses.Text) × (text ≡ fault_text line too_many)
IsRefused (Spelling line) status text = (status ≡ statuses.Text) × (text ≡ fault_text line spelled_out)
IsRefused NoMemory status text = ⊥

-- the status and the line of a refusal
abbrev pub IsRsmRefused : RsmTableRefusal → Status → List ℕ → Type 0
IsRsmRefused (faults.SameDomain i j) status text = (status ≡ statuses.Machine)
    × (text ≡ clash_line (clash.SameDomain i j))
IsRsmRefused (faults.SameRange i j) status text = (status ≡ statuses.Machine)
    × (text ≡ clash_line (clash.SameRange i j))
IsRsmRefused faults.NoMemory status text = ⊥
IsRsmRefused (faults.FieldCount i) status text = (status ≡ statuses.Text)
    × (text ≡ rsm_fault_line (faults.FieldCount i))
IsRsmRefused (faults.Number i j) status text = (status ≡ statuses.Text) × (text ≡ rsm_fault_line (faults.Number i j))
IsRsmRefused (faults.TooMany i) status text = (status ≡ statuses.Text) × (text ≡ rsm_fault_line (faults.TooMany i))
IsRsmRefused faults.Empty status text = (status ≡ statuses.Text) × (text ≡ rsm_fault_line faults.Empty)

-- how the report ends that bytes are no configuration text: its line is the reply, unless memory runs out
abbrev pub RefusalEnds : NetlistRefusal → Status → Option (List ℕ) → Option (List ℕ) → ℕ → ℕ → Type 0
RefusalEnds refusal result taken took before now =
    (reply : Result Reply WantOfMemory) × IfOk reply (λ r. IsRefused refusal r.status r.text.items)
    × FinishesReply reply result taken took before now

-- how the report ends that no text was read
abbrev pub UnreadEnds : FromRefusal → Status → Option (List ℕ) → Option (List ℕ) → ℕ → ℕ → Type 0
UnreadEnds reading.ReadFault result taken took before now =
    Finishes statuses.ReadFault result taken took before now read_fault_text
UnreadEnds reading.TooLong result taken took before now = Finishes statuses.Size result taken took before now size_text
UnreadEnds (reading.Text refusal) result taken took before now = RefusalEnds refusal result taken took before now
UnreadEnds reading.NoMemory result taken took before now = (result ≡ statuses.NoMemory) × (took ≡ taken)
