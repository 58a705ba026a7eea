-- `farm` has one answer.
use Rattle.std.specs.Prelude.{◌≡◌, ◌≢◌, ℕ, List, [], ◌∷◌, length, Some, refl, ◌⊎◌}
use Rattle.std.proofs.Common.{zero, suc, arith, sym, ap, subst, ◌∙◌, inl, inr}
use Rattle.std.proofs.lemmas.Bool.{cases_lt}
use Rattle.bn_lists.specs.Lists.{HasNone, nth}
use Rattle.bn_lists.proofs.ListLemmas.{first_once, first_or_none}
use Rattle.bn_circuits.specs.declared.place.Place.{Place}
use Rattle.bn_circuits.specs.declared.net.TheConstants.{MOST_ELEMENTS}
use Rattle.bn_farm.specs.Farms.{FarmBoard, IsFarm, IsSpelled, elements_together, farm_after, ticks}
use Rattle.bn_farm.specs.FarmRead.{IsUnspelled}
use Rattle.bn_netlist_laws.specs.Faults.{Fault, IsFirstFault}
use Rattle.bn_netlist_laws.proofs.DecideLemmas.{texts-spell-or-fault}
use Rattle.bn_netlist_laws.proofs.TextLemmas.{faults-agree, faulty_texts-spell-nothing}
use Rattle.bn_reply.specs.Answering.{AgreeInAll, HasAnswer, IsOneAnswer}
use Rattle.bn_reply.specs.Codes.{IsReplyStatus}
use Rattle.bn_base.specs.Cuts.{IsUncut}
use Rattle.bn_reply.specs.declared.status.Status.{Status}
use Rattle.bn_reply.specs.declared.status.Status.TheVariants as statuses
use Rattle.bn_base.proofs.CutLemmas.{cuts-never_both}
use Rattle.bn_reply.proofs.SettledLemmas.{agree}
use Rattle.bn_farm.specs.declared.event.Event.{Event}
use Rattle.bn_farm.specs.Undo.{undoing}
use Rattle.bn_farm.specs.FarmTexts.{AreParts, FailsAfter, IsSchedule, IsFarmText, ScheduleFault, SpellBoards}
use Rattle.bn_reply_circuits.specs.FarmReply.{FarmIsSettled, FarmReplies, ScheduleReplies, TellsBoard, board_line}
use Rattle.bn_reply_circuits.specs.FarmReply.{farm_elements_line, faulty, large, misspelled, no_schedule}
use Rattle.bn_reply_circuits.specs.FarmReply.{no_schedule_line, played, read, schedule_line}
use Rattle.bn_farm.proofs.FarmLemmas.{farms_stay}
use Rattle.bn_farm.proofs.PartLemmas.{parts_once, parts_there, spelled_farm}
use Rattle.bn_farm.proofs.TextLawLemmas.{farms-have_texts}
use Rattle.bn_farm.proofs.SameLemmas.{AreAllSame, elements_same, length_same, played_same, spelled_same}
use Rattle.bn_farm.proofs.ScheduleLemmas.{fault_once, faulty_none, schedule_once, schedule_or_fault}

-- ---- boards and a schedule

schedule_some : (bs : List FarmBoard) (bytes : List ℕ) → IsFarm bs → HasAnswer (ScheduleReplies bs bytes)
schedule_some bs bytes good = by_schedule (schedule_or_fault (length bs) bytes)
  where
    by_schedule : ((es : List Event) × IsSchedule (length bs) bytes es)
        ⊎ ((n : ℕ) × (fault : ScheduleFault) × FailsAfter (length bs) n bytes fault)
        → HasAnswer (ScheduleReplies bs bytes)
    by_schedule (inl (es, is)) = elim (cases_lt MOST_ELEMENTS (elements_together bs)) [
      | inl great ↦ (statuses.Size, farm_elements_line (elements_together bs), [], large es is great refl refl refl)
      | inr few ↦ (let text = farms-have_texts (farm_after bs es) (undoing bs es) (farms_stay bs (ticks es) good) in
          (statuses.Done, text.0, [], played es is few text.1 refl refl))
    ]
    by_schedule (inr (n, fault, is)) = (
      statuses.Text,
      schedule_line (suc n) fault,
      [],
      faulty n fault is refl refl refl,
    )

-- boards that are the same but for the order of wires are answered alike
schedule_one : (bs cs : List FarmBoard) (bytes : List ℕ) → AreAllSame bs cs
    → (s u : Status) (a b : List ℕ) (x y : List Place) → ScheduleReplies bs bytes s a x → ScheduleReplies cs bytes u b y
    → AgreeInAll s u a b x y
schedule_one bs cs bytes same s u a b x y (faulty n fault h is e told) (faulty m other k also f heard) =
    let there : FailsAfter (length bs) m bytes other = subst (λ l. FailsAfter l m bytes other)
    (sym (length_same bs cs same)) k in
    let both = fault_once (length bs) n m bytes fault other h there in
    agree statuses.Text s u a b x y e f (is ∙ (λ i. schedule_line (suc (both.0 i)) (both.1 i)) ∙ sym also) told heard
schedule_one bs cs bytes same s u a b x y (faulty n fault h is e told) (large es k great also f heard) =
    let there = subst (λ l. IsSchedule l bytes es) (sym (length_same bs cs same)) k in
    absurd (faulty_none (length bs) n bytes fault es h there.lawful there.spelled)
schedule_one bs cs bytes same s u a b x y (faulty n fault h is e told) (played es k few also f heard) =
    let there = subst (λ l. IsSchedule l bytes es) (sym (length_same bs cs same)) k in
    absurd (faulty_none (length bs) n bytes fault es h there.lawful there.spelled)
schedule_one bs cs bytes same s u a b x y (large es h great is e told) (faulty m other k also f heard) =
    let there : FailsAfter (length bs) m bytes other = subst (λ l. FailsAfter l m bytes other)
    (sym (length_same bs cs same)) k in
    absurd (faulty_none (length bs) m bytes other es there h.lawful h.spelled)
schedule_one bs cs bytes same s u a b x y (large es h great is e told) (large fs k more also f heard) =
    agree statuses.Size s u a b x y e f (is ∙ ap farm_elements_line (elements_same bs cs same) ∙ sym also) told heard
schedule_one bs cs bytes same s u a b x y (large es h great is e told) (played fs k few also f heard) =
    let count = elements_same bs cs same in
    absurd (omega arith)
schedule_one bs cs bytes same s u a b x y (played es h few is e told) (faulty m other k also f heard) =
    let there : FailsAfter (length bs) m bytes other = subst (λ l. FailsAfter l m bytes other)
    (sym (length_same bs cs same)) k in
    absurd (faulty_none (length bs) m bytes other es there h.lawful h.spelled)
schedule_one bs cs bytes same s u a b x y (played es h few is e told) (large fs k great also f heard) =
    let count = elements_same bs cs same in
    absurd (omega arith)
schedule_one bs cs bytes same s u a b x y (played es h few is e told) (played fs k low also f heard) =
    let there = subst (λ l. IsSchedule l bytes fs) (sym (length_same bs cs same)) k in
    let events = schedule_once (length bs) bytes es fs h there in
    let other = subst (λ gs. IsFarmText (farm_after cs gs) (undoing cs gs) b) (sym events) also in
    agree statuses.Done s u a b x y e f (played_same bs cs es a b same is other) told heard

schedule_status : (bs : List FarmBoard) (bytes : List ℕ) (s : Status) (text : List ℕ) (told : List Place)
    → ScheduleReplies bs bytes s text told → IsReplyStatus s
schedule_status bs bytes s text told (faulty n fault h is e n') = subst IsReplyStatus (sym e) tt
schedule_status bs bytes s text told (large es h great is e n) = subst IsReplyStatus (sym e) tt
schedule_status bs bytes s text told (played es h few is e n) = subst IsReplyStatus (sym e) tt

-- ---- boards

unread_or_not : (part : List ℕ) → IsUnspelled part ⊎ (IsUnspelled part → ⊥)
unread_or_not part = elim (texts-spell-or-fault part) [
  | inl said ↦ inr (λ h. h (record { version = said.0; spelling = said.1 }) said.2)
  | inr fault ↦ inl (λ b is. faulty_texts-spell-nothing b.version b.spelling part fault.0 fault.1 fault.2 is)
]

-- the fault of a part that has no reading
fault_of : (part : List ℕ) → IsUnspelled part → (line : ℕ) × (fault : Fault) × IsFirstFault part line fault
fault_of part none = elim (texts-spell-or-fault part) [
  | inl said ↦ absurd (none (record { version = said.0; spelling = said.1 }) said.2)
  | inr fault ↦ fault
]

rest_none : (part : List ℕ) (parts : List (List ℕ)) → HasNone IsUnspelled (part ∷ parts) → HasNone IsUnspelled parts
rest_none part parts h = record { none = none }
  where
    none : (n : ℕ) (x : List ℕ) → nth parts n ≡ Some x → IsUnspelled x → ⊥
    none zero x is unread = absurd (cc)
    none (suc n) x is unread = h.none (suc (suc n)) x is unread

all_read : (parts : List (List ℕ)) → HasNone IsUnspelled parts → (bs : List FarmBoard) × SpellBoards parts bs
all_read [] h = ([], tt)
all_read (part ∷ parts) h =
    let rest = all_read parts (rest_none part parts h) in
    elim (texts-spell-or-fault part) [
      | inl said ↦ (record { version = said.0; spelling = said.1 } ∷ rest.0, (said.2, rest.1))
      | inr fault ↦ absurd (h.none 1 part refl (λ b is. faulty_texts-spell-nothing b.version b.spelling part fault.0
          fault.1 fault.2 is))
    ]

-- parts that spell boards have no first faulty one
faulty_unspelled : (parts : List (List ℕ)) (bs : List FarmBoard) (n : ℕ) (part : List ℕ) → SpellBoards parts bs
    → nth parts n ≡ Some part → IsUnspelled part → ⊥
faulty_unspelled [] bs zero part spell is none = absurd (cc)
faulty_unspelled [] bs (suc n) part spell is none = absurd (cc)
faulty_unspelled (p ∷ parts) [] n part spell is none = absurd spell
faulty_unspelled (p ∷ parts) (b ∷ bs) zero part spell is none = absurd (cc)
faulty_unspelled (p ∷ parts) (b ∷ bs) (suc zero) part spell is none = let same : p ≡ part =
    cc in none b (subst (IsSpelled b) same spell.0)
faulty_unspelled (p ∷ parts) (b ∷ bs) (suc (suc n)) part spell is none =
    faulty_unspelled parts bs (suc n) part spell.1 is none

board_once : (parts : List (List ℕ)) (a b : List ℕ) → TellsBoard parts a → TellsBoard parts b → a ≡ b
board_once parts a b h k =
    let place = first_once IsUnspelled parts h.board k.board h.part k.part h.first k.first in
    let both = faults-agree k.part h.line k.line h.fault k.fault
    (subst (λ p. IsFirstFault p h.line h.fault) place.1 h.faulty) k.faulty in
    h.told ∙ (λ i. board_line (place.0 i) (both.0 i) (both.1 i)) ∙ sym k.told

no_parts : (bytes : List ℕ) (parts : List (List ℕ)) (last : List ℕ) → parts ≢ [] → AreParts bytes parts last
    → IsUncut bytes → ⊥
no_parts bytes [] last some are none = some refl
no_parts bytes (p ∷ ps) last some are none = cuts-never_both bytes p are.0 are.1 none

none_first : (bytes : List ℕ) (parts : List (List ℕ)) (last text : List ℕ) → AreParts bytes parts last
    → TellsBoard parts text → IsUncut bytes → ⊥
none_first bytes [] last text are h none = let stands = h.first.stands in empty h.board stands
  where
    empty : (n : ℕ) → nth [] n ≡ Some h.part → ⊥
    empty zero is = cc
    empty (suc n) is = cc
none_first bytes (p ∷ ps) last text are h none = cuts-never_both bytes p are.0 are.1 none

-- ---- bytes

farm_some : (bytes : List ℕ) → HasAnswer (FarmReplies bytes)
farm_some bytes = let there = parts_there bytes in by_parts there.0 there.1 there.2
  where
    by_parts : (parts : List (List ℕ)) (last : List ℕ) → AreParts bytes parts last → HasAnswer (FarmReplies bytes)
    by_parts [] last are = (statuses.Text, no_schedule_line, [], no_schedule are.0 refl refl refl)
    by_parts (p ∷ ps) last are = elim (first_or_none IsUnspelled unread_or_not (p ∷ ps)) [
      | inl first ↦
          (let fault = fault_of first.1 first.2.holds in (
            statuses.Text,
            board_line first.0 fault.0 fault.1,
            [],
            misspelled (p ∷ ps) last are (record {
              board = first.0;
              part = first.1;
              first = first.2;
              line = fault.0;
              fault = fault.1;
              faulty = fault.2;
              told = refl;
            }) refl refl,
          ))
      | inr none ↦
          (let all = all_read (p ∷ ps) none in
          let answer = schedule_some all.0 last (spelled_farm (p ∷ ps) all.0 all.1) in
          (answer.0, answer.1, answer.2, read (p ∷ ps) last all.0 (λ e. cc) are all.1 answer.3))
    ]

pub farm_one : (bytes : List ℕ) → IsOneAnswer (FarmReplies bytes)
farm_one bytes s u a b x y (no_schedule h is e told) (no_schedule k also f heard) =
    agree statuses.Text s u a b x y e f (is ∙ sym also) told heard
farm_one bytes s u a b x y (no_schedule h is e told) (misspelled ps last are k f heard) =
    absurd (none_first bytes ps last b are k h)
farm_one bytes s u a b x y (no_schedule h is e told) (read ps last bs some are spell k) =
    absurd (no_parts bytes ps last some are h)
farm_one bytes s u a b x y (misspelled ps last are h e told) (no_schedule k also f heard) =
    absurd (none_first bytes ps last a are h k)
farm_one bytes s u a b x y (misspelled ps last are h e told) (misspelled qs other also k f heard) =
    let same = parts_once bytes ps qs last other are also in
    agree statuses.Text s u a b x y e f (board_once qs a b (subst (λ zs. TellsBoard zs a) same.0 h) k) told heard
farm_one bytes s u a b x y (misspelled ps last are h e told) (read qs other bs some also spell k) =
    let same = parts_once bytes ps qs last other are also in
    let there = subst (λ zs. TellsBoard zs a) same.0 h in
    absurd (faulty_unspelled qs bs there.board there.part spell there.first.stands there.first.holds)
farm_one bytes s u a b x y (read ps last bs some are spell h) (no_schedule k also f heard) =
    absurd (no_parts bytes ps last some are k)
farm_one bytes s u a b x y (read ps last bs some are spell h) (misspelled qs other also k f heard) =
    let same = parts_once bytes qs ps other last also are in
    let there = subst (λ zs. TellsBoard zs b) same.0 k in
    absurd (faulty_unspelled ps bs there.board there.part spell there.first.stands there.first.holds)
farm_one bytes s u a b x y (read ps last bs some are spell h) (read qs other cs some' also spells k) =
    let same = parts_once bytes qs ps other last also are in
    let spelled : SpellBoards ps cs = subst (λ zs. SpellBoards zs cs) same.0 spells in
    let reply : ScheduleReplies cs last u b y = subst (λ l. ScheduleReplies cs l u b y) same.1 k in
    schedule_one bs cs last (spelled_same ps bs cs spell spelled) s u a b x y h reply

farm_status : (bytes : List ℕ) (s : Status) (text : List ℕ) (told : List Place) → FarmReplies bytes s text told
    → IsReplyStatus s
farm_status bytes s text told (no_schedule h is e n) = subst IsReplyStatus (sym e) tt
farm_status bytes s text told (misspelled ps last are h e n) = subst IsReplyStatus (sym e) tt
farm_status bytes s text told (read ps last bs some are spell h) = schedule_status bs last s text told h

pub farm-settled : FarmIsSettled
farm-settled bytes = record { some = farm_some bytes; one = farm_one bytes; status = farm_status bytes }
