-- The answers of commands that take a table of quintuples in standard form, and of those that also take a word of its
-- letters (this project's own profile).
use Rattle.std.specs.Prelude.{◌≡◌, ◌≢◌, ℕ, List, [], Option, Some}
use Rattle.bn_circuits.specs.declared.place.Place.{Place}
use Rattle.bn_csv.specs.Entries.{entries_of}
use Rattle.bn_table.specs.Faults.{table_fault}
use Rattle.bn_table.specs.Reading.{Reads}
use Rattle.bn_table.specs.Rows.{Named}
use Rattle.bn_machine.specs.Standard.{IsStandard}
use Rattle.bn_machine.specs.Verdict.{IsStandardRefusal}
use Rattle.bn_machine.specs.declared.why.Why.{Why}
use Rattle.bn_machine.specs.declared.why.Why.TheVariants as whys
use Rattle.bn_reply.specs.Lines.{fault_line, foreign_line, why_line}
use Rattle.bn_reply.specs.Words.{IsFirstForeign, IsSpelledBy}
use Rattle.bn_reply.specs.declared.status.Status.{Status}
use Rattle.bn_reply.specs.declared.status.Status.TheVariants as statuses

-- There is no reading, and the text names the first fault. Here T are the tables, and F the faults, each with its line.
pub record TellsFirst {T F : Type 0} (IsReading : T → Type 0) (found : Option F) (line_of : F → List ℕ)
    (text : List ℕ) : Type 0 where
  pub unread : (t : T) → IsReading t → ⊥
  pub fault : F
  pub first : found ≡ Some fault
  pub told : text ≡ line_of fault

-- the bytes have no reading as a table of quintuples, and the text names their first fault
abbrev pub TellsFault : List ℕ → List ℕ → Type 0
TellsFault bytes text = TellsFirst (Reads bytes) (table_fault (entries_of bytes)) fault_line text

-- The answer to these bytes, where `tells` is the answer to a table: the first fault if the bytes are not a table, or
-- else that answer.
pub data TableReplies (tells : Named → Status → List ℕ → List Place → Type 0) (bytes : List ℕ) (status : Status)
    (text : List ℕ) (told : List Place) : Type 0 where
  faulty : TellsFault bytes text → status ≡ statuses.Text → told ≡ [] → TableReplies tells bytes status text told
  read : (t : Named) → Reads bytes t → tells t status text told → TableReplies tells bytes status text told

-- the table's machine is not in standard form, and the text names the first condition that it does not meet
pub record TellsWhy (t : Named) (text : List ℕ) : Type 0 where
  pub unfit : IsStandard t.machine.quints → ⊥
  pub why : Why
  pub first : IsStandardRefusal t.machine.quints why
  pub said : why ≢ whys.NoMemory
  pub told : text ≡ why_line why

-- The answer to a table, where `tells` is the answer if its machine is in standard form: the first condition that the
-- machine does not meet, or else that answer.
pub data JudgedReplies (tells : Status → List ℕ → List Place → Type 0) (t : Named) (status : Status) (text : List ℕ)
    (told : List Place) : Type 0 where
  unfit : TellsWhy t text → status ≡ statuses.Machine → told ≡ [] → JudgedReplies tells t status text told
  fit : IsStandard t.machine.quints → tells status text told → JudgedReplies tells t status text told

-- the answer to these bytes, where `tells` is the answer to a table with a machine in standard form
abbrev pub StandardReplies : (Named → Status → List ℕ → List Place → Type 0) → List ℕ → Status → List ℕ → List Place →
    Type 0
StandardReplies tells = TableReplies (λ t. JudgedReplies (tells t) t)

-- The answer to a word, where `tells` is the answer to the symbols that spell it: the first place that is foreign, or
-- else that answer.
pub data WordReplies (tells : List ℕ → Status → List ℕ → List Place → Type 0) (t : Named) (word : List ℕ)
    (status : Status) (text : List ℕ) (told : List Place) : Type 0 where
  foreign : (p : ℕ) → IsFirstForeign t word p → text ≡ foreign_line p → status ≡ statuses.Word → told ≡ [] →
      WordReplies tells t word status text told
  spelled : (symbols : List ℕ) → IsSpelledBy t word symbols → tells symbols status text told →
      WordReplies tells t word status text told

-- the bytes read as this table, and its machine is in standard form
pub record ReadsStandard (bytes : List ℕ) (t : Named) : Type 0 where
  pub reads : Reads bytes t
  pub standard : IsStandard t.machine.quints
