-- `realise` answers all bytes, and in one way.
use Rattle.std.specs.Prelude.{◌≡◌, ◌≢◌, ℕ, ◌+◌, ◌<◌, ◌≤◌, List, [], Option, Some, None, Result, Ok, Err, IfOk, refl}
use Rattle.std.specs.Prelude.{◌⊎◌}
use Rattle.std.proofs.Common.{zero, suc, arith, sym, ap, subst, ◌∙◌, inl, inr}
use Rattle.std.proofs.lemmas.Bool.{cases_lt}
use Rattle.bn_circuits.specs.Circuits.{target}
use Rattle.bn_circuits.specs.declared.line.Line.{Line}
use Rattle.bn_netlist_laws.specs.Spelling.{Admits, IsTextOf, Spelling, Spelled}
use Rattle.bn_netlist_laws.specs.declared.version.Version.TheVariants.{Two}
use Rattle.bn_circuits.specs.declared.net.TheConstants.{MOST_ELEMENTS}
use Rattle.bn_csv.specs.Entries.{entries_of}
use Rattle.bn_rsm.proofs.SoundLemmas.{refusal_once, sound-or-refused, sound-refusal}
use Rattle.bn_rsm.specs.Faults as moves
use Rattle.bn_rsm.specs.Machines.{Machine}
use Rattle.bn_rsm.specs.declared.rsm_move.RsmMove.{RsmMove}
use Rattle.bn_rsm.specs.declared.refusal.RsmRefusal.{RsmRefusal}
use Rattle.bn_rsm.specs.declared.refusal.RsmRefusal.TheVariants as clash
use Rattle.bn_rsm.specs.Entry.{AreReadAs, lines_named, states_named}
use Rattle.bn_rsm.specs.TableFaults.{move_table_fault}
use Rattle.bn_rsm.specs.Reading.{MovesClash, IsMoveTableRefusal, ReadsMoves}
use Rattle.bn_rsm.proofs.ReadingLaws.{machine_or_refusal, no_fault_of, one_machine, one_reading}
use Rattle.bn_rsm.specs.declared.table_refusal.RsmTableRefusal.{RsmTableRefusal}
use Rattle.bn_rsm.specs.declared.table_refusal.RsmTableRefusal.TheVariants as faults
use Rattle.bn_realise.specs.BankNets.{bank_elements}
use Rattle.bn_reply_circuits.specs.RealiseReply.{BankReplies, lacking, large, bank, IsBankSpelling, IsPlaceOf}
use Rattle.bn_reply_circuits.specs.RealiseReply.{LacksPlace, no_line, no_state, RealiseReplies, faulty}
use Rattle.bn_reply_circuits.specs.RealiseReply.{clashing, reading, RealiseIsSettled, TellsBank, TellsClash, clash_line}
use Rattle.bn_reply_circuits.specs.RealiseReply.{rsm_fault_line}
use Rattle.bn_reply_circuits.specs.Refused.{IsRsmRefused}
use Rattle.bn_reply.specs.Answering.{HasAnswer, IsOneAnswer}
use Rattle.bn_reply.specs.Codes.{IsReplyStatus}
use Rattle.bn_lists.specs.declared.memory.NoMemory.{NoMemory as WantOfMemory}
use Rattle.bn_circuits.specs.declared.place.Place.{Place}
use Rattle.bn_reply.proofs.SettledLemmas.{agree}
use Rattle.bn_reply.proofs.TableLemmas.{first_once}
use Rattle.bn_reply.specs.declared.status.Status.{Status}
use Rattle.bn_reply.specs.declared.status.Status.TheVariants as statuses
use Rattle.bn_netlist_laws.proofs.VersionLemmas.{same_text}
use Rattle.bn_netlist.specs.NetText.{spelling_of}
use Rattle.bn_netlist.specs.declared.net_config.NetConfig.{NetConfig}
use Rattle.bn_reply_circuits.specs.Unwritten.{IsBankConfig, WillReply}
use Rattle.bn_reply_circuits.specs.declared.unwritten.Unwritten.{Unwritten}
use Rattle.bn_reply_circuits.specs.declared.unwritten.Unwritten.TheVariants.{Config}
use Rattle.bn_reply_circuits.proofs.BankLemmas.{bank_spelled}
use Rattle.bn_reply_circuits.proofs.UnwrittenLemmas.{will_as}

-- ---- of a machine

same_targets : (o p : Option Line) → ((to : Line) → o ≡ Some to → p ≡ Some to)
    → ((to : Line) → p ≡ Some to → o ≡ Some to) → o ≡ p
same_targets None None f g = refl
same_targets (Some x) p f g = sym (f x refl)
same_targets None (Some y) f g = g y refl

-- two spellings of one bank have one text
same_bank : (m : Machine) (state row : ℕ) (s t : Spelling) (text second : List ℕ) → IsBankSpelling m state row s
    → IsBankSpelling m state row t
    → Spelled Two s text → Spelled Two t second → text ≡ second
same_bank m state row s t text second h k one two =
    same_text Two s t text second (h.elements ∙ sym k.elements)
    (λ from. same_targets (target s.wires from) (target t.wires from)
    (λ to is. (k.wires from to).1 ((h.wires from to).0 is))
    (λ to is. (h.wires from to).1 ((k.wires from to).0 is)))
    (h.config ∙ sym k.config) (h.start ∙ sym k.start) (h.end ∙ sym k.end) one two

not_lacking : (m : Machine) (q i : ℕ) (text : List ℕ) → LacksPlace m q i text → q ≤ m.states → i ≤ m.lines → ⊥
not_lacking m q i text (no_state low told) a b = omega arith
not_lacking m q i text (no_line there low told) a b = omega arith

bank_inside : (m : Machine) (q i : ℕ) (text : List ℕ) → TellsBank m q i text
    → (q ≤ m.states) × (i ≤ m.lines) × (bank_elements m ≤ MOST_ELEMENTS)
bank_inside m q i text h =
    let place = h.place in
    let few = h.spelled.admitted.few in
    let is = h.bank.elements in
    (omega (arith, place.state_is, place.state_in), omega (arith, place.row_is, place.row_in), omega (arith, few, is))

bank_one : (m : Machine) (q i : ℕ) → IsOneAnswer (BankReplies m q i)
bank_one m q i s u a b x y (lacking (no_state low told) e l) (lacking (no_state _ also) f n) =
    agree statuses.Word s u a b x y e f (told ∙ sym also) l n
bank_one m q i s u a b x y (lacking (no_state low told) e l) (lacking (no_line there more also) f n) =
    absurd (omega arith)
bank_one m q i s u a b x y (lacking (no_line there low told) e l) (lacking (no_state more also) f n) =
    absurd (omega arith)
bank_one m q i s u a b x y (lacking (no_line there low told) e l) (lacking (no_line _ _ also) f n) =
    agree statuses.Word s u a b x y e f (told ∙ sym also) l n
bank_one m q i s u a b x y (lacking h e l) (large k f n) = absurd (not_lacking m q i a h k.state_in k.row_in)
bank_one m q i s u a b x y (lacking h e l) (bank k f n) = let in_it =
    bank_inside m q i b k in absurd (not_lacking m q i a h in_it.0 in_it.1)
bank_one m q i s u a b x y (large h e l) (lacking k f n) = absurd (not_lacking m q i b k h.state_in h.row_in)
bank_one m q i s u a b x y (large h e l) (large k f n) = agree statuses.Size s u a b x y e f (h.told ∙ sym k.told) l n
bank_one m q i s u a b x y (large h e l) (bank k f n) = let in_it = bank_inside m q i b k in let over =
    h.many in absurd (omega arith)
bank_one m q i s u a b x y (bank h e l) (lacking k f n) = let in_it =
    bank_inside m q i a h in absurd (not_lacking m q i b k in_it.0 in_it.1)
bank_one m q i s u a b x y (bank h e l) (large k f n) = let in_it = bank_inside m q i a h in let over =
    k.many in absurd (omega arith)
bank_one m q i s u a b x y (bank h e l) (bank k f n) =
    let state : h.state ≡ k.state = omega (arith, h.place.state_is, k.place.state_is) in
    let row : h.row ≡ k.row = omega (arith, h.place.row_is, k.place.row_is) in
    let first = subst (λ j. IsBankSpelling m j h.row h.spelling) state h.bank in
    let second = subst (λ j. IsBankSpelling m k.state j h.spelling) row first in
    agree statuses.Done s u a b x y e f (same_bank m k.state k.row h.spelling k.spelling a b second k.bank h.spelled
    k.spelled) l n

bank_status : (m : Machine) (q i : ℕ) (s : Status) (text : List ℕ) (told : List Place) → BankReplies m q i s text told
    → IsReplyStatus s
bank_status m q i s text told (lacking h e l) = subst IsReplyStatus (sym e) tt
bank_status m q i s text told (large h e l) = subst IsReplyStatus (sym e) tt
bank_status m q i s text told (bank h e l) = subst IsReplyStatus (sym e) tt

less_one : (n : ℕ) → 1 ≤ n → (k : ℕ) × (n ≡ k + 1)
less_one zero h = absurd (omega arith)
less_one (suc k) h = (k, omega arith)

bank_to_all : (m : Machine) (q i : ℕ) → 1 ≤ q → 1 ≤ i → HasAnswer (BankReplies m q i)
bank_to_all m q i some_state some_row = by_state (cases_lt m.states q)
  where
    by_count : q ≤ m.states → i ≤ m.lines → (MOST_ELEMENTS < bank_elements m) ⊎ (bank_elements m ≤ MOST_ELEMENTS)
        → HasAnswer (BankReplies m q i)
    by_count there row (inl over) = (
      statuses.Size,
      _,
      [],
      large (record { state_in = there; row_in = row; many = over; told = refl }) refl refl,
    )
    by_count there row (inr few) =
        let state = less_one q some_state in
        let line = less_one i some_row in
        let place : IsPlaceOf m q i state.0 line.0 = record {
          state_is = state.1;
          row_is = line.1;
          state_in = omega (arith, state.1);
          row_in = omega (arith, line.1);
        } in
        let found = bank_spelled m state.0 line.0 place.state_in place.row_in few in (
          statuses.Done,
          found.2.0,
          [],
          bank (record
              { state = state.0; row = line.0; place = place; spelling = found.0; bank = found.1; spelled = found.2.1 })
              refl refl,
        )

    by_line : q ≤ m.states → (m.lines < i) ⊎ (i ≤ m.lines) → HasAnswer (BankReplies m q i)
    by_line there (inl low) = (statuses.Word, _, [], lacking (no_line there low refl) refl refl)
    by_line there (inr row) = by_count there row (cases_lt MOST_ELEMENTS (bank_elements m))

    by_state : (m.states < q) ⊎ (q ≤ m.states) → HasAnswer (BankReplies m q i)
    by_state (inl low) = (statuses.Word, _, [], lacking (no_state low refl) refl refl)
    by_state (inr there) = by_line there (cases_lt m.lines i)

-- ---- of bytes

clash_once : (bytes a b : List ℕ) → TellsClash bytes a → TellsClash bytes b → a ≡ b
clash_once bytes a b h k =
    let same : h.clashes.found ≡ k.clashes.found = one_reading (entries_of bytes) h.clashes.found k.clashes.found
    h.clashes.reads k.clashes.reads in
    let moved = subst (λ ms. moves.IsMoveRefusal (states_named ms) (lines_named ms) ms h.said) same h.clashes.clash in
    let one : h.said ≡ k.said = refusal_once (states_named k.clashes.found)
    (lines_named k.clashes.found) k.clashes.found h.said k.said moved k.clashes.clash h.some k.some in
    h.told ∙ ap clash_line one ∙ sym k.told

no_clash : (bytes a : List ℕ) (m : Machine) → TellsClash bytes a → ReadsMoves bytes m → ⊥
no_clash bytes a m h reads =
    let same : h.clashes.found ≡ m.moves = one_reading (entries_of bytes) h.clashes.found m.moves h.clashes.reads
    reads.moves in
    let moved = subst (λ ms. moves.IsMoveRefusal (states_named ms) (lines_named ms) ms h.said) same h.clashes.clash in
    let states = subst (λ n. moves.IsMoveRefusal n (lines_named m.moves) m.moves h.said) (sym reads.states) moved in
    let lines = subst (λ n. moves.IsMoveRefusal m.states n m.moves h.said) (sym reads.lines) states in
    h.some (sound-refusal m.states m.lines m.moves h.said m.sound lines)

-- bytes with a fault are read as no moves
unread : (bytes : List ℕ) (e : RsmTableRefusal) → move_table_fault (entries_of bytes) ≡ Some e → (ms : List RsmMove)
    → AreReadAs (entries_of bytes) ms → ⊥
unread bytes e first ms reads = let none = no_fault_of (entries_of bytes) ms reads in cc

realise_some : (q i : ℕ) (bytes : List ℕ) → 1 ≤ q → 1 ≤ i →
    ((m : Machine) × ReadsMoves bytes m) ⊎ ((e : RsmTableRefusal) × (e ≢ faults.NoMemory) × IsMoveTableRefusal bytes e)
    → HasAnswer (RealiseReplies q i bytes)
realise_some q i bytes some_state some_row (inl m) = let h =
    bank_to_all m.0 q i some_state some_row in (h.0, h.1, h.2, reading m.0 m.1 h.3)
realise_some q i bytes some_state some_row (inr refused) = by_refusal refused.0 refused.1 refused.2
  where
    told : (e : RsmTableRefusal) → move_table_fault (entries_of bytes) ≡ Some e → HasAnswer (RealiseReplies q i bytes)
    told e first = (
      statuses.Text,
      rsm_fault_line e,
      [],
      faulty
          (record { unread = λ ms reads. unread bytes e first ms reads; fault = e; first = first; told = refl }) refl
          refl,
    )

    by_refusal : (e : RsmTableRefusal) → e ≢ faults.NoMemory → IsMoveTableRefusal bytes e
        → HasAnswer (RealiseReplies q i bytes)
    by_refusal (faults.FieldCount n) some is = told (faults.FieldCount n) is
    by_refusal (faults.Number n k) some is = told (faults.Number n k) is
    by_refusal (faults.TooMany n) some is = told (faults.TooMany n) is
    by_refusal faults.Empty some is = told faults.Empty is
    by_refusal (faults.SameDomain a b) some is = (
      statuses.Machine,
      _,
      [],
      clashing (record { said = clash.SameDomain a b; clashes = is; some = (λ e. cc); told = refl }) refl refl,
    )
    by_refusal (faults.SameRange a b) some is = (
      statuses.Machine,
      _,
      [],
      clashing (record { said = clash.SameRange a b; clashes = is; some = (λ e. cc); told = refl }) refl refl,
    )
    by_refusal faults.NoMemory some is = absurd (some refl)

realise_one : (q i : ℕ) (bytes : List ℕ) → IsOneAnswer (RealiseReplies q i bytes)
realise_one q i bytes s u a b x y (faulty h e l) (faulty k f n) = agree statuses.Text s u a b x y e f
    (first_once (AreReadAs (entries_of bytes)) (move_table_fault (entries_of bytes)) rsm_fault_line a b h k) l n
realise_one q i bytes s u a b x y (faulty h e l) (clashing k f n) = absurd (h.unread k.clashes.found k.clashes.reads)
realise_one q i bytes s u a b x y (faulty h e l) (reading m reads k) = absurd (h.unread m.moves reads.moves)
realise_one q i bytes s u a b x y (clashing h e l) (faulty k f n) = absurd (k.unread h.clashes.found h.clashes.reads)
realise_one q i bytes s u a b x y (clashing h e l) (clashing k f n) =
    agree statuses.Machine s u a b x y e f (clash_once bytes a b h k) l n
realise_one q i bytes s u a b x y (clashing h e l) (reading m reads k) = absurd (no_clash bytes a m h reads)
realise_one q i bytes s u a b x y (reading m reads h) (faulty k f n) = absurd (k.unread m.moves reads.moves)
realise_one q i bytes s u a b x y (reading m reads h) (clashing k f n) = absurd (no_clash bytes b m k reads)
realise_one q i bytes s u a b x y (reading m reads h) (reading n also k) =
    let same : m ≡ n = one_machine bytes m n reads also in
    bank_one n q i s u a b x y (subst (λ z. BankReplies z q i s a x) same h) k

realise_status : (q i : ℕ) (bytes : List ℕ) (s : Status) (text : List ℕ) (told : List Place)
    → RealiseReplies q i bytes s text told → IsReplyStatus s
realise_status q i bytes s text told (faulty h e l) = subst IsReplyStatus (sym e) tt
realise_status q i bytes s text told (clashing h e l) = subst IsReplyStatus (sym e) tt
realise_status q i bytes s text told (reading m reads h) = bank_status m q i s text told h

pub realise_settled : RealiseIsSettled
realise_settled q i bytes some_state some_row = record {
  some = realise_some q i bytes some_state some_row (machine_or_refusal sound-or-refused bytes);
  one = realise_one q i bytes;
  status = realise_status q i bytes;
}

-- a refusal of the bytes, told in its line, is a reply of `realise`
pub refused_replies : (q i : ℕ) (bytes : List ℕ) (e : RsmTableRefusal) (s : Status) (text : List ℕ)
    → IsMoveTableRefusal bytes e → IsRsmRefused e s text →
    RealiseReplies q i bytes s text []
refused_replies q i bytes e s text is told = by_refusal e is told
  where
    faulty_text : (e : RsmTableRefusal) → move_table_fault (entries_of bytes) ≡ Some e
        → (s ≡ statuses.Text) × (text ≡ rsm_fault_line e) →
        RealiseReplies q i bytes s text []
    faulty_text e first h =
        faulty (record { unread = λ ms reads. unread bytes e first ms reads; fault = e; first = first; told = h.1 }) h.0
        refl

    clashing_text : (said : RsmRefusal) → said ≢ clash.NoMemory → MovesClash bytes said
        → (s ≡ statuses.Machine) × (text ≡ clash_line said) →
        RealiseReplies q i bytes s text []
    clashing_text said some clashes h =
        clashing (record { said = said; clashes = clashes; some = some; told = h.1 }) h.0 refl

    by_refusal : (e : RsmTableRefusal) → IsMoveTableRefusal bytes e → IsRsmRefused e s text
        → RealiseReplies q i bytes s text []
    by_refusal (faults.FieldCount n) is h = faulty_text (faults.FieldCount n) is h
    by_refusal (faults.Number n k) is h = faulty_text (faults.Number n k) is h
    by_refusal (faults.TooMany n) is h = faulty_text (faults.TooMany n) is h
    by_refusal faults.Empty is h = faulty_text faults.Empty is h
    by_refusal (faults.SameDomain a b) is h = clashing_text (clash.SameDomain a b) (λ e. cc) is h
    by_refusal (faults.SameRange a b) is h = clashing_text (clash.SameRange a b) (λ e. cc) is h
    by_refusal faults.NoMemory is h = absurd h

-- what is answered of a machine that is read
pub machine_will : (q i : ℕ) (bytes : List ℕ) (m : Machine) (result : Result Unwritten WantOfMemory)
    → ReadsMoves bytes m →
    IfOk result (WillReply (BankReplies m q i)) → IfOk result (WillReply (RealiseReplies q i bytes))
machine_will q i bytes m (Ok a) reads h = will_as (BankReplies m q i) (RealiseReplies q i bytes)
    (λ s t right. reading m reads right) a h
machine_will q i bytes m (Err e) reads h = tt

-- the configuration of its bank
pub bank_will : (m : Machine) (q i state row : ℕ) (c : NetConfig) → IsPlaceOf m q i state row
    → IsBankConfig m state row c →
    WillReply (BankReplies m q i) (Config c)
bank_will m q i state row c place is =
    let admitted = subst (λ v. Admits v (spelling_of c)) (sym is.version) is.admitted in
    record {
      writable = admitted;
      right = λ s text written.
          let told : IsTextOf Two (spelling_of c) text = subst (λ v. IsTextOf v (spelling_of c) text) is.version
          written.1 in
          bank (record {
            state = state;
            row = row;
            place = place;
            spelling = spelling_of c;
            bank = is.bank;
            spelled = record { admitted = is.admitted; is_text = told };
          }) written.0 refl;
    }
