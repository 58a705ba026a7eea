-- The answer of the command `realise`: the configuration text of the bank of rotary elements that realises a
-- reversible sequential machine, in a state and with the signal at an input port (Morita 2017; the bank and the texts
-- are this project's own profile). In the arguments the state and the port are counted from 1.
use Rattle.std.specs.Prelude.{◌≡◌, ◌≢◌, ◌↔◌, ℕ, ◌+◌, ◌<◌, ◌≤◌, List, [], ◌∷◌, Some, codes, decimal}
use Rattle.bn_circuits.specs.Circuits.{target}
use Rattle.bn_circuits.specs.declared.line.Line.{Line}
use Rattle.bn_netlist_laws.specs.Spelling.{Spelling, Spelled}
use Rattle.bn_netlist_laws.specs.declared.version.Version.TheVariants.{Two}
use Rattle.bn_circuits.specs.declared.net.TheConstants.{MOST_ELEMENTS}
use Rattle.bn_csv.specs.Entries.{entries_of}
use Rattle.bn_rsm.specs.Machines.{Machine, machine_table}
use Rattle.bn_rsm.specs.declared.refusal.RsmRefusal.{RsmRefusal}
use Rattle.bn_rsm.specs.declared.refusal.RsmRefusal.TheVariants as clash
use Rattle.bn_rsm.specs.Entry.{AreReadAs}
use Rattle.bn_rsm.specs.TableFaults.{move_table_fault}
use Rattle.bn_rsm.specs.Reading.{MovesClash, ReadsMoves}
use Rattle.bn_rsm.specs.declared.table_refusal.RsmTableRefusal.{RsmTableRefusal}
use Rattle.bn_rsm.specs.declared.table_refusal.RsmTableRefusal.TheVariants as faults
use Rattle.bn_realise.specs.Banks.{IsBankWire, exit_after, bank_input_line}
use Rattle.bn_realise.specs.BankNets.{bank_elements, start_at}
use Rattle.bn_circuits.specs.declared.place.Place.{Place}
use Rattle.bn_reply.specs.Answering.{IsSettled}
use Rattle.bn_reply.specs.Lines.{record_line, field_line, empty_line, line}
use Rattle.bn_reply.specs.TableReply.{TellsFirst}
use Rattle.bn_reply.specs.declared.status.Status.{Status}
use Rattle.bn_reply.specs.declared.status.Status.TheVariants as statuses

-- the line of a fault of the bytes' entries
abbrev pub rsm_fault_line : RsmTableRefusal → List ℕ
rsm_fault_line (faults.FieldCount i) = record_line i (codes "fields")
rsm_fault_line (faults.Number i j) = field_line i j (codes "number")
rsm_fault_line (faults.TooMany i) = record_line i (codes "too many")
rsm_fault_line faults.Empty = empty_line
rsm_fault_line (faults.SameDomain i j) = []
rsm_fault_line (faults.SameRange i j) = []
rsm_fault_line faults.NoMemory = []

-- the bytes have no reading as moves, and the text names their first fault
abbrev pub TellsRsmFault : List ℕ → List ℕ → Type 0
TellsRsmFault bytes text =
    TellsFirst (AreReadAs (entries_of bytes)) (move_table_fault (entries_of bytes)) rsm_fault_line text

-- the line of two moves that overlap in domain or in range
abbrev pub clash_line : RsmRefusal → List ℕ
clash_line (clash.SameDomain i j) = line (codes "machine: domain " ∷ decimal i ∷ codes " " ∷ decimal j ∷ [])
clash_line (clash.SameRange i j) = line (codes "machine: range " ∷ decimal i ∷ codes " " ∷ decimal j ∷ [])
clash_line (clash.Range j) = []
clash_line clash.NoMemory = []

-- the bytes read as moves two of which overlap in domain or in range, and the text names the first such pair
pub record TellsClash (bytes text : List ℕ) : Type 0 where
  pub said : RsmRefusal
  pub clashes : MovesClash bytes said
  pub some : said ≢ clash.NoMemory
  pub told : text ≡ clash_line said

-- the machine has no such state, or it has the state and no such port
pub data LacksPlace (m : Machine) (q i : ℕ) (text : List ℕ) : Type 0 where
  no_state : m.states < q → text ≡ line (codes "word: state" ∷ []) → LacksPlace m q i text
  no_line : q ≤ m.states → m.lines < i → text ≡ line (codes "word: line" ∷ []) → LacksPlace m q i text

-- the machine has the state q and the port i, counted from 1; counted from 0 they are `state` and `row`
pub record IsPlaceOf (m : Machine) (q i state row : ℕ) : Type 0 where
  pub state_is : q ≡ state + 1
  pub row_is : i ≡ row + 1
  pub state_in : state < m.states
  pub row_in : row < m.lines

-- the machine's bank would have too many elements
pub record TellsElements (m : Machine) (q i : ℕ) (text : List ℕ) : Type 0 where
  pub state_in : q ≤ m.states
  pub row_in : i ≤ m.lines
  pub many : MOST_ELEMENTS < bank_elements m
  pub told : text ≡ line (codes "size: elements " ∷ decimal (bank_elements m) ∷ [])

-- The text spells the machine's bank, with the bank's own wires and no others, at rest in this state, with the signal
-- about to enter this input port, which is the start; the end is the port by which the signal leaves.
pub record IsBankSpelling (m : Machine) (state row : ℕ) (s : Spelling) : Type 0 where
  pub elements : s.elements ≡ bank_elements m
  pub wires : (from to : Line) → (target s.wires from ≡ Some to) ↔ IsBankWire 0 (machine_table m) from to
  pub config : s.config ≡ start_at m.states m.lines state row
  pub start : s.start ≡ bank_input_line 0 row
  pub end : s.end ≡ exit_after 0 (machine_table m) state row ((machine_table m).go state row)

-- the text is that of the machine's bank, in version 2
pub record TellsBank (m : Machine) (q i : ℕ) (text : List ℕ) : Type 0 where
  pub state : ℕ
  pub row : ℕ
  pub place : IsPlaceOf m q i state row
  pub spelling : Spelling
  pub bank : IsBankSpelling m state row spelling
  pub spelled : Spelled Two spelling text

-- The answer for a machine: it lacks the state or the port; its bank is too large; or the text of the bank.
pub data BankReplies (m : Machine) (q i : ℕ) (status : Status) (text : List ℕ) (told : List Place) : Type 0 where
  lacking : LacksPlace m q i text → status ≡ statuses.Word → told ≡ [] → BankReplies m q i status text told
  large : TellsElements m q i text → status ≡ statuses.Size → told ≡ [] → BankReplies m q i status text told
  bank : TellsBank m q i text → status ≡ statuses.Done → told ≡ [] → BankReplies m q i status text told

-- The answer of `realise` to these bytes: the fault of bytes that are no moves; two moves that overlap in domain or in
-- range; or the answer for the machine.
pub data RealiseReplies (q i : ℕ) (bytes : List ℕ) (status : Status) (text : List ℕ) (told : List Place) : Type 0 where
  faulty : TellsRsmFault bytes text → status ≡ statuses.Text → told ≡ [] → RealiseReplies q i bytes status text told
  clashing : TellsClash bytes text → status ≡ statuses.Machine → told ≡ [] → RealiseReplies q i bytes status text told
  reading : (m : Machine) → ReadsMoves bytes m → BankReplies m q i status text told →
      RealiseReplies q i bytes status text told

-- for all states and ports, counted from 1, and all bytes, it has exactly one answer
abbrev pub RealiseIsSettled : Type 0
RealiseIsSettled = (q i : ℕ) (bytes : List ℕ) → 1 ≤ q → 1 ≤ i → IsSettled (RealiseReplies q i bytes)
