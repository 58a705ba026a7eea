-- Bytes are one schedule, or have one first fault.
use Rattle.std.specs.Prelude.{◌≡◌, ◌≢◌, ℕ, ◌+◌, ◌-◌, ◌<◌, ◌≤◌, ◌==◌, Bool, true, false, List, [], ◌∷◌, ◌++◌, length}
use Rattle.std.specs.Prelude.{Option, Some, None, refl, ◌⊎◌}
use Rattle.std.proofs.Common.{zero, suc, arith, sym, ap, subst, ◌∙◌, inl, inr, append_assoc, length-append}
use Rattle.std.proofs.lemmas.Bool.{cases_lt, cases_eq}
use Rattle.bn_farm.specs.declared.event.Event.{Event}
use Rattle.bn_farm.specs.FarmTexts.{AreEventsOf, HasScheduleFault, FailsAfter, IsEventOf, IsSayableOrder, IsSchedule}
use Rattle.bn_farm.specs.FarmTexts.{ScheduleFault, malformed, no_board, order_of, order_text, schedule_text}
use Rattle.bn_farm.specs.declared.order.Order.{Order}
use Rattle.bn_farm.specs.Reading.{order_taken}
use Rattle.bn_farm.proofs.OrderLemmas.{lines-same, order_taken-again, order_taken-takes}

-- a line and its end are something
some_line : (xs ys : List ℕ) → xs ++ 10 ∷ ys ≢ []
some_line [] ys e = cc
some_line (x ∷ xs) ys e = cc

-- events are one where their lines say one thing
same_event : (e f : Event) → order_of e ≡ order_of f → e ≡ f
same_event e f same =
    let forward : e.forward ≡ f.forward = ap (λ (o : Order). o.forward) same in
    let number : e.board + 1 ≡ f.board + 1 = ap (λ (o : Order). o.number) same in
    let board : e.board ≡ f.board = omega arith in
    let count : e.count ≡ f.count = ap (λ (o : Order). o.count) same in
    (λ i. let x : Event = record { forward = forward i; board = board i; count = count i } in x)

module _ (boards : ℕ) where
  -- ---- one schedule

  events_once : (es fs : List Event) → AreEventsOf boards es → AreEventsOf boards fs
      → schedule_text es ≡ schedule_text fs → es ≡ fs
  events_once [] [] one also same = refl
  events_once [] (f ∷ fs) one also same = absurd (some_line (order_text (order_of f)) (schedule_text fs) (sym same))
  events_once (e ∷ es) [] one also same = absurd (some_line (order_text (order_of e)) (schedule_text es) same)
  events_once (e ∷ es) (f ∷ fs) one also same =
      let both = lines-same (order_of e) (order_of f) (schedule_text es) (schedule_text fs) one.0.sayable also.0.sayable
      same in
      let first = same_event e f both.0 in
      let rest = events_once es fs one.1 also.1 both.1 in
      (λ i. first i ∷ rest i)

  pub schedule_once : (bytes : List ℕ) (es fs : List Event) → IsSchedule boards bytes es → IsSchedule boards bytes fs
      → es ≡ fs
  schedule_once bytes es fs one also = events_once es fs one.lawful also.lawful (sym one.spelled ∙ also.spelled)

  -- ---- one fault

  -- a line with a fault asks for no event
  fault_asks : (left behind : List ℕ) (fault : ScheduleFault) (e : Event) → HasScheduleFault boards left fault
      → IsEventOf boards e → left ≢ order_text (order_of e) ++ 10 ∷ behind
  fault_asks left behind malformed e h asks is = h.unsaid (order_of e) behind asks.sayable is
  fault_asks left behind no_board e h asks is =
      let same = (lines-same h.says (order_of e) h.behind behind h.sayable asks.sayable (sym h.begins ∙ is)).0 in
      let number : h.says.number ≡ e.board + 1 = ap (λ (o : Order). o.number) same in
      let low = asks.has_board in
      by_lack number low h.lacking
    where
      by_lack : h.says.number ≡ e.board + 1 → e.board < boards → (h.says.number ≡ 0) ⊎ (boards < h.says.number) → ⊥
      by_lack number low (inl none) = omega arith
      by_lack number low (inr great) = omega arith

  fault_some : (left : List ℕ) (fault : ScheduleFault) → HasScheduleFault boards left fault → left ≢ []
  fault_some left malformed h is = h.some is
  fault_some left no_board h is = some_line (order_text h.says) h.behind (sym h.begins ∙ is)

  one_fault : (left : List ℕ) (fault other : ScheduleFault) → HasScheduleFault boards left fault
      → HasScheduleFault boards left other → fault ≡ other
  one_fault left malformed malformed h k = refl
  one_fault left malformed no_board h k = absurd (h.unsaid k.says k.behind k.sayable k.begins)
  one_fault left no_board malformed h k = absurd (k.unsaid h.says h.behind h.sayable h.begins)
  one_fault left no_board no_board h k = refl

  pub fault_once : (n m : ℕ) (bytes : List ℕ) (fault other : ScheduleFault) → FailsAfter boards n bytes fault
      → FailsAfter boards m bytes other → (n ≡ m) × (fault ≡ other)
  fault_once zero zero bytes fault other h k = (refl, one_fault bytes fault other h k)
  fault_once zero (suc m) bytes fault other h k = absurd (fault_asks bytes k.1 fault k.0 h k.2 k.3)
  fault_once (suc n) zero bytes fault other h k = absurd (fault_asks bytes h.1 other h.0 k h.2 h.3)
  fault_once (suc n) (suc m) bytes fault other h k =
      let both = lines-same (order_of h.0) (order_of k.0) h.1 k.1 h.2.sayable k.2.sayable (sym h.3 ∙ k.3) in
      let rest = fault_once n m k.1 fault other (subst (λ left. FailsAfter boards n left fault) both.1 h.4) k.4 in
      (ap (λ i. suc i) rest.0, rest.1)

  pub faulty_none : (n : ℕ) (bytes : List ℕ) (fault : ScheduleFault) (es : List Event) → FailsAfter boards n bytes fault
      → AreEventsOf boards es → bytes ≢ schedule_text es
  faulty_none zero bytes fault [] h lawful is = fault_some bytes fault h is
  faulty_none zero bytes fault (e ∷ es) h lawful is = fault_asks bytes (schedule_text es) fault e h lawful.0 is
  faulty_none (suc n) bytes fault [] h lawful is = some_line (order_text (order_of h.0)) h.1 (sym h.3 ∙ is)
  faulty_none (suc n) bytes fault (e ∷ es) h lawful is =
      let both = lines-same (order_of h.0) (order_of e) h.1 (schedule_text es) h.2.sayable lawful.0.sayable
      (sym h.3 ∙ is) in
      faulty_none n h.1 fault es h.4 lawful.1 both.1

  -- ---- one of the two

  abbrev Decided : List ℕ → Type 0
  Decided bytes = ((es : List Event) × IsSchedule boards bytes es)
      ⊎ ((n : ℕ) × (fault : ScheduleFault) × FailsAfter boards n bytes fault)

  -- a line with an event before what was decided
  event_before : (e : Event) (bytes behind : List ℕ) → IsEventOf boards e
      → bytes ≡ order_text (order_of e) ++ 10 ∷ behind → Decided behind → Decided bytes
  event_before e bytes behind asks is (inl (es, rest)) =
      inl (
        e ∷ es,
        record {
          spelled = is ∙ ap (λ t. order_text (order_of e) ++ 10 ∷ t) rest.spelled;
          lawful = (asks, rest.lawful);
        },
      )
  event_before e bytes behind asks is (inr (n, fault, rest)) = inr (suc n, fault, (e, behind, asks, is, rest))

  lacks : (o : Order) (bytes behind : List ℕ) → IsSayableOrder o → bytes ≡ order_text o ++ 10 ∷ behind
      → (o.number ≡ 0) ⊎ (boards < o.number) → Decided bytes
  lacks o bytes behind sayable is why = inr (
    0,
    no_board,
    record { says = o; behind = behind; begins = is; sayable = sayable; lacking = why },
  )

  -- the event of an order whose board is there
  ordered : (o : Order) → IsSayableOrder o → o.number ≢ 0 → o.number ≤ boards
      → (e : Event) × IsEventOf boards e × (order_of e ≡ o)
  ordered o sayable some few =
      let back : (o.number - 1) + 1 ≡ o.number = positive o.number some in
      let e : Event = record { forward = o.forward; board = o.number - 1; count = o.count } in
      let same : order_of e ≡ o = ap (λ n. let x : Order = record { forward = o.forward; number = n; count = o.count }
      in x) back in
      (e, record { sayable = subst IsSayableOrder (sym same) sayable; has_board = omega arith }, same)
    where
      positive : (n : ℕ) → n ≢ 0 → (n - 1) + 1 ≡ n
      positive zero h = absurd (h refl)
      positive (suc n) h = omega arith

  -- no order's line begins bytes of which no line is taken
  unread : (bytes : List ℕ) → order_taken bytes ≡ None → (o : Order) (behind : List ℕ) → IsSayableOrder o
      → bytes ≢ order_text o ++ 10 ∷ behind
  unread bytes none o behind sayable is = clash (o, behind) (sym none ∙ ap order_taken is
      ∙ order_taken-again o behind sayable)
    where
      clash : (x : Order × List ℕ) → ◌≡◌ {A = Option (Order × List ℕ)} None (Some x) → ⊥
      clash x e = cc

  by_number : (bytes : List ℕ) → ((left : List ℕ) → length left < length bytes → Decided left)
      → (o : Order) (behind : List ℕ) → IsSayableOrder o → bytes ≡ order_text o ++ 10 ∷ behind
      → (o.number ≡ 0) ⊎ (o.number ≢ 0) → (boards < o.number) ⊎ (o.number ≤ boards) → Decided bytes
  by_number bytes later o behind sayable is (inl none) _ = lacks o bytes behind sayable is (inl none)
  by_number bytes later o behind sayable is (inr some) (inl great) = lacks o bytes behind sayable is (inr great)
  by_number bytes later o behind sayable is (inr some) (inr few) =
      let e = ordered o sayable some few in
      let line : bytes ≡ order_text (order_of e.0) ++ 10 ∷ behind =
      is ∙ ap (λ x. order_text x ++ 10 ∷ behind) (sym e.2) in
      let long : length bytes ≡ length (order_text o ++ 10 ∷ behind) = ap (λ (xs : List ℕ). length xs) is in
      let sum = length-append (order_text o) (10 ∷ behind) in
      event_before e.0 bytes behind e.1 line (later behind (omega (arith, long, sum)))

  by_line : (bytes : List ℕ) → bytes ≢ [] → ((left : List ℕ) → length left < length bytes → Decided left)
      → (x : Option (Order × List ℕ)) → order_taken bytes ≡ x → Decided bytes
  by_line bytes some later None is = inr (0, malformed, record { some = some; unsaid = unread bytes is })
  by_line bytes some later (Some (o, behind)) is =
      let taken = order_taken-takes bytes behind o is in
      by_number bytes later o behind taken.sayable taken.written (cases_eq o.number 0) (cases_lt boards o.number)

  from_here : (fuel : ℕ) (bytes : List ℕ) → length bytes < fuel → Decided bytes
  from_here zero bytes short = absurd (omega arith)
  from_here (suc fuel) [] short = inl ([], record { spelled = refl; lawful = tt })
  from_here (suc fuel) (b ∷ bytes) short =
      by_line (b ∷ bytes) (λ e. cc) (λ left less. from_here fuel left (omega arith)) (order_taken (b ∷ bytes)) refl

  pub schedule_or_fault : (bytes : List ℕ) → ((es : List Event) × IsSchedule boards bytes es)
      ⊎ ((n : ℕ) × (fault : ScheduleFault) × FailsAfter boards n bytes fault)
  schedule_or_fault bytes = from_here (suc (length bytes)) bytes (omega arith)

-- ---- line by line

-- the bytes are the lines of these events, and what is left
pub record HasRead (boards : ℕ) (bytes : List ℕ) (es : List Event) (left : List ℕ) : Type 0 where
  pub begins : bytes ≡ schedule_text es ++ left
  pub lawful : AreEventsOf boards es

text_joined : (es : List Event) (e : Event) → schedule_text (es ++ e ∷ [])
    ≡ schedule_text es ++ (order_text (order_of e) ++ 10 ∷ [])
text_joined [] e = refl
text_joined (x ∷ es) e =
    ap (λ t. order_text (order_of x) ++ 10 ∷ t) (text_joined es e)
    ∙ sym (append_assoc (order_text (order_of x)) (10 ∷ schedule_text es) (order_text (order_of e) ++ 10 ∷ []))

events_more : (boards : ℕ) (es : List Event) (e : Event) → AreEventsOf boards es → IsEventOf boards e
    → AreEventsOf boards (es ++ e ∷ [])
events_more boards [] e all is = (is, tt)
events_more boards (x ∷ es) e all is = (all.0, events_more boards es e all.1 is)

pub one_read : (boards : ℕ) (bytes left behind : List ℕ) (es : List Event) (e : Event) (o : Order)
    → HasRead boards bytes es left → order_taken left ≡ Some (o, behind) → order_of e ≡ o → e.board < boards
    → HasRead boards bytes (es ++ e ∷ []) behind
one_read boards bytes left behind es e o h taken same low =
    let is = order_taken-takes left behind o taken in
    let line : left ≡ order_text (order_of e) ++ 10 ∷ behind =
    is.written ∙ ap (λ x. order_text x ++ 10 ∷ behind) (sym same) in
    record {
      begins = h.begins ∙ ap (λ l. schedule_text es ++ l) (line
          ∙ sym (append_assoc (order_text (order_of e)) (10 ∷ []) behind))
          ∙ sym (append_assoc (schedule_text es) (order_text (order_of e) ++ 10 ∷ []) behind)
          ∙ ap (λ t. t ++ behind) (sym (text_joined es e));
      lawful = events_more boards es e h.lawful (record {
        sayable = subst IsSayableOrder (sym same) is.sayable;
        has_board = low;
      });
    }

pub read_shorter : (left behind : List ℕ) (o : Order) → order_taken left ≡ Some (o, behind)
    → length behind < length left
read_shorter left behind o taken =
    let is = order_taken-takes left behind o taken in
    let long : length left ≡ length (order_text o ++ 10 ∷ behind) = ap (λ (xs : List ℕ). length xs) is.written in
    let sum = length-append (order_text o) (10 ∷ behind) in
    omega (arith, long, sum)

fails_behind : (boards : ℕ) (es : List Event) (bytes left : List ℕ) (fault : ScheduleFault)
    → bytes ≡ schedule_text es ++ left → AreEventsOf boards es → HasScheduleFault boards left fault
    → FailsAfter boards (length es) bytes fault
fails_behind boards [] bytes left fault is all h = subst (λ l. HasScheduleFault boards l fault) (sym is) h
fails_behind boards (e ∷ es) bytes left fault is all h = (
  e,
  schedule_text es ++ left,
  all.0,
  is ∙ append_assoc (order_text (order_of e)) (10 ∷ schedule_text es) left,
  fails_behind boards es (schedule_text es ++ left) left fault refl all.1 h,
)

pub fails_form : (boards : ℕ) (bytes left : List ℕ) (es : List Event) → HasRead boards bytes es left → left ≢ []
    → order_taken left ≡ None → FailsAfter boards (length es) bytes malformed
fails_form boards bytes left es h some none = fails_behind boards es bytes left malformed h.begins h.lawful
    (record { some = some; unsaid = unread boards left none })

pub fails_board : (boards : ℕ) (bytes left behind : List ℕ) (es : List Event) (o : Order) → HasRead boards bytes es left
    → order_taken left ≡ Some (o, behind) → (o.number ≡ 0) ⊎ (boards < o.number)
    → FailsAfter boards (length es) bytes no_board
fails_board boards bytes left behind es o h taken why =
    let is = order_taken-takes left behind o taken in
    fails_behind boards es bytes left no_board h.begins h.lawful
    (record { says = o; behind = behind; begins = is.written; sayable = is.sayable; lacking = why })

-- ---- what the program reads

pub some_left : (left : List ℕ) (b : Bool) → b ≡ (length left == 0) → b ≡ false → left ≢ []
some_left left b is fails e = clash (sym (is ∙ ap (λ (l : List ℕ). length l == 0) e) ∙ fails)
  where
    clash : true ≡ false → ⊥
    clash h = cc

pub order_event : (o : Order) → 0 < o.number → order_of (record
    { forward = o.forward; board = o.number - 1; count = o.count }) ≡ o
order_event o some =
    let back : (o.number - 1) + 1 ≡ o.number = omega arith in
    ap (λ n. let x : Order = record { forward = o.forward; number = n; count = o.count } in x) back

pub form_at : (boards len : ℕ) (bytes left : List ℕ) (es : List Event) → len ≡ length es → HasRead boards bytes es left
    → left ≢ [] → order_taken left ≡ None → (n : ℕ) × (len + 1 ≡ n + 1) × FailsAfter boards n bytes malformed
form_at boards len bytes left es count h some none = (
  length es,
  ap (λ n. n + 1) count,
  fails_form boards bytes left es h some none,
)

pub board_missing : (boards len : ℕ) (bytes left behind : List ℕ) (es : List Event) (o : Order) → len ≡ length es
    → HasRead boards bytes es left → order_taken left ≡ Some (o, behind) → (o.number ≡ 0) ⊎ (boards < o.number)
    → (n : ℕ) × (len + 1 ≡ n + 1) × FailsAfter boards n bytes no_board
board_missing boards len bytes left behind es o count h taken why =
    (length es, ap (λ n. n + 1) count, fails_board boards bytes left behind es o h taken why)
