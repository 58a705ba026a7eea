-- What is read of a table, and what its refusals tell.
use Rattle.std.specs.Prelude.{◌≡◌, ◌≢◌, ◌⊎◌, ℕ, List, Some, refl}
use Rattle.std.proofs.Common.{sym, ap, subst, ◌∙◌, inl, inr}
use Rattle.bn_csv.specs.Entries.{entries_of}
use Rattle.bn_rsm.proofs.ReadingLaws.{machine_or_refusal, no_fault_of, one_reading}
use Rattle.bn_rsm.proofs.SoundLemmas.{refusal_once, sound-or-refused, sound-refusal}
use Rattle.bn_rsm.specs.Entry.{AreReadAs, lines_named, states_named}
use Rattle.bn_rsm.specs.Faults as moves
use Rattle.bn_rsm.specs.Machines.{Machine}
use Rattle.bn_rsm.specs.Reading.{IsMoveTableRefusal, ReadsMoves}
use Rattle.bn_rsm.specs.TableFaults.{move_table_fault}
use Rattle.bn_rsm.specs.declared.refusal.RsmRefusal.TheVariants as clash
use Rattle.bn_rsm.specs.declared.table_refusal.RsmTableRefusal.{RsmTableRefusal}
use Rattle.bn_rsm.specs.declared.table_refusal.RsmTableRefusal.TheVariants as faults
use Rattle.bn_reply.proofs.TableLemmas.{first_once}
use Rattle.bn_reply_circuits.specs.RealiseReply.{TellsClash, TellsRsmFault, clash_line, rsm_fault_line}

-- the first fault is told
pub fault_told : (bytes : List ℕ) (e : RsmTableRefusal) (text : List ℕ) → move_table_fault (entries_of bytes) ≡ Some e
    → text ≡ rsm_fault_line e → TellsRsmFault bytes text
fault_told bytes e text first told = record {
  unread = λ ms reads. let none = no_fault_of (entries_of bytes) ms reads in cc;
  fault = e;
  first = first;
  told = told;
}

pub fault_once : (bytes a b : List ℕ) → TellsRsmFault bytes a → TellsRsmFault bytes b → a ≡ b
fault_once bytes a b h k =
    first_once (AreReadAs (entries_of bytes)) (move_table_fault (entries_of bytes)) rsm_fault_line a b h k

pub clash_once : (bytes a b : List ℕ) → TellsClash bytes a → TellsClash bytes b → a ≡ b
clash_once bytes a b h k =
    let same : h.clashes.found ≡ k.clashes.found = one_reading (entries_of bytes) h.clashes.found k.clashes.found
    h.clashes.reads k.clashes.reads in
    let moved = subst (λ ms. moves.IsMoveRefusal (states_named ms) (lines_named ms) ms h.said) same h.clashes.clash in
    let one : h.said ≡ k.said = refusal_once (states_named k.clashes.found)
    (lines_named k.clashes.found) k.clashes.found h.said k.said moved k.clashes.clash h.some k.some in
    h.told ∙ ap clash_line one ∙ sym k.told

pub no_clash : (bytes a : List ℕ) (m : Machine) → TellsClash bytes a → ReadsMoves bytes m → ⊥
no_clash bytes a m h reads =
    let same : h.clashes.found ≡ m.moves = one_reading (entries_of bytes) h.clashes.found m.moves h.clashes.reads
    reads.moves in
    let moved = subst (λ ms. moves.IsMoveRefusal (states_named ms) (lines_named ms) ms h.said) same h.clashes.clash in
    let states = subst (λ n. moves.IsMoveRefusal n (lines_named m.moves) m.moves h.said) (sym reads.states) moved in
    let lines = subst (λ n. moves.IsMoveRefusal m.states n m.moves h.said) (sym reads.lines) states in
    h.some (sound-refusal m.states m.lines m.moves h.said m.sound lines)

-- bytes have a fault, or a clash, or are a machine
pub data IsJudged (bytes : List ℕ) : Type 0 where
  faulty : (text : List ℕ) → TellsRsmFault bytes text → IsJudged bytes
  clashing : (text : List ℕ) → TellsClash bytes text → IsJudged bytes
  machine : (m : Machine) → ReadsMoves bytes m → IsJudged bytes

pub judged : (bytes : List ℕ) → IsJudged bytes
judged bytes = by (machine_or_refusal sound-or-refused bytes)
  where
    told : (e : RsmTableRefusal) → move_table_fault (entries_of bytes) ≡ Some e → IsJudged bytes
    told e first = faulty (rsm_fault_line e) (fault_told bytes e (rsm_fault_line e) first refl)

    by_refusal : (e : RsmTableRefusal) → e ≢ faults.NoMemory → IsMoveTableRefusal bytes e → IsJudged bytes
    by_refusal (faults.FieldCount n) some is = told (faults.FieldCount n) is
    by_refusal (faults.Number n k) some is = told (faults.Number n k) is
    by_refusal (faults.TooMany n) some is = told (faults.TooMany n) is
    by_refusal faults.Empty some is = told faults.Empty is
    by_refusal (faults.SameDomain a b) some is = clashing (clash_line (clash.SameDomain a b))
        (record { said = clash.SameDomain a b; clashes = is; some = (λ e. cc); told = refl })
    by_refusal (faults.SameRange a b) some is = clashing (clash_line (clash.SameRange a b))
        (record { said = clash.SameRange a b; clashes = is; some = (λ e. cc); told = refl })
    by_refusal faults.NoMemory some is = absurd (some refl)

    by : ((m : Machine) × ReadsMoves bytes m)
        ⊎ ((e : RsmTableRefusal) × (e ≢ faults.NoMemory) × IsMoveTableRefusal bytes e) → IsJudged bytes
    by (inl m) = machine m.0 m.1
    by (inr refused) = by_refusal refused.0 refused.1 refused.2
