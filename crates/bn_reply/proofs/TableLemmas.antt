-- Bytes are a table, or have a first fault, and not both; a table's machine is in standard form, or a first demand
-- isn't met.
use Rattle.std.proofs.Common.{◌≡◌, ◌≢◌, ℕ, List, ◌⊎◌, inl, inr, refl, sym, subst, ap, ◌∙◌, Option, Some, None}
use Rattle.std.specs.Prelude.{◌↔◌}
use Rattle.bn_csv.specs.Entries.{entries_of}
use Rattle.bn_table.specs.Faults.{table_fault}
use Rattle.bn_table.specs.Reading.{Reads, OneReading, ReadingOrFault}
use Rattle.bn_table.specs.Rows.{Named, IsTable, IsTableOf}
use Rattle.bn_table.proofs.ReadingLaws.{no_fault_of, one_reading, reading_of}
use Rattle.bn_machine.specs.Standard.{IsStandard}
use Rattle.bn_machine.specs.Verdict.{IsStandardRefusal}
use Rattle.bn_machine.proofs.VerdictLemmas.{standard_accepted, verdict_once}
use Rattle.bn_reply.specs.Lines.{fault_line, why_line}
use Rattle.bn_machine.specs.declared.why.Why.{Why}
use Rattle.bn_machine.specs.declared.why.Why.TheVariants as whys
use Rattle.bn_reply.specs.TableReply.{TellsFault, TellsFirst, TellsWhy}
use Rattle.bn_reply.proofs.StandardOrNot.{standard_or_not}

-- ---- any table

-- of one first fault one text tells
pub first_once : {T F : Type 0} (R : T → Type 0) (found : Option F) (line_of : F → List ℕ) (a b : List ℕ)
    → TellsFirst R found line_of a →
    TellsFirst R found line_of b → a ≡ b
first_once R found line_of a b h k =
    let same : h.fault ≡ k.fault = cc (h.first, k.first) in
    h.told ∙ ap line_of same ∙ sym k.told

none_or_some : {F : Type 0} (o : Option F) → (o ≡ None) ⊎ ((f : F) × (o ≡ Some f))
none_or_some None = inl refl
none_or_some (Some f) = inr (f, refl)

-- there is a reading, or the first fault is told
pub read_or_told : {T F : Type 0} (R : T → Type 0) (found : Option F) (line_of : F → List ℕ)
    → (found ≡ None) ↔ ((t : T) × R t) →
    ((t : T) × R t) ⊎ ((text : List ℕ) × TellsFirst R found line_of text)
read_or_told R found line_of law = elim (none_or_some found) [
  | inl none ↦ inl (law.0 none)
  | inr some ↦ inr (
    line_of some.0,
    record {
      unread = λ t reads. let none : found ≡ None = law.1 (t, reads) in let there = some.1 in absurd (cc);
      fault = some.0;
      first = some.1;
      told = refl;
    },
  )
]

-- ---- a table of quintuples

table_or_fault : ReadingOrFault
table_or_fault bytes = (λ none. reading_of (entries_of bytes) none, λ r. no_fault_of (entries_of bytes) r.0 r.1)

-- a table that is read is one
pub reads_table : (bytes : List ℕ) (t : Named) → Reads bytes t → IsTable t
reads_table bytes t h = subst (λ (entries : List (List (List ℕ))). IsTableOf entries t) (sym h.spelled.rows) h

-- bytes are at most one table
pub one_table : OneReading
one_table bytes t u h k = one_reading (entries_of bytes) t u h k

pub fault_once : (bytes a b : List ℕ) → TellsFault bytes a → TellsFault bytes b → a ≡ b
fault_once bytes a b h k = first_once (Reads bytes) (table_fault (entries_of bytes)) fault_line a b h k

-- ---- a table's machine

pub why_once : (t : Named) (a b : List ℕ) → TellsWhy t a → TellsWhy t b → a ≡ b
why_once t a b h k = h.told ∙ ap why_line (verdict_once t.machine.quints h.why k.why h.said k.said h.first k.first)
    ∙ sym k.told

-- a demand that isn't met, told in its line
pub why_told : (t : Named) (why : Why) (text : List ℕ) → IsStandardRefusal t.machine.quints why → why ≢ whys.NoMemory
    → text ≡ why_line why → TellsWhy t text
why_told t why text first said told = record {
  unfit = λ s. said (standard_accepted t.machine.quints why s first);
  why = why;
  first = first;
  said = said;
  told = told;
}

-- the machine is in standard form, or the first demand that it doesn't meet is told
pub standard_or_told : (t : Named) → IsStandard t.machine.quints ⊎ ((text : List ℕ) × TellsWhy t text)
standard_or_told t = elim (standard_or_not t.machine.quints) [
  | inl standard ↦ inl standard
  | inr f ↦ inr (why_line f.why, why_told t f.why (why_line f.why) f.first f.said refl)
]

-- ---- a table of quintuples

pub table_or_told : (bytes : List ℕ) → ((t : Named) × Reads bytes t) ⊎ ((text : List ℕ) × TellsFault bytes text)
table_or_told bytes = read_or_told (Reads bytes) (table_fault (entries_of bytes)) fault_line (table_or_fault bytes)
