-- `equal` has one answer to all states and bytes.
use Rattle.std.specs.Prelude.{◌≡◌, ◌+◌, ◌<◌, ◌≤◌, ◌⊎◌, ℕ, List, [], ◌∷◌, codes, refl}
use Rattle.std.proofs.Common.{zero, suc, arith, sym, ap, subst, ◌∙◌, inl, inr}
use Rattle.std.proofs.lemmas.Bool.{cases_lt}
use Rattle.bn_base.proofs.CutLemmas.{cuts-never_both, cuts-one}
use Rattle.bn_base.proofs.CutOrNot.{cut_or_not}
use Rattle.bn_circuits.specs.declared.place.Place.{Place}
use Rattle.bn_equal.proofs.ExistenceLemmas.{equal_or_told}
use Rattle.bn_equal.proofs.LawLemmas.{least_differences_are_one}
use Rattle.bn_equal.specs.Answers.{AreEqual}
use Rattle.bn_equal.specs.Differences.{IsLeastDifference, last_output}
use Rattle.bn_rsm.proofs.ReadingLaws.{one_machine}
use Rattle.bn_rsm.specs.Machines.{Machine, machine_table}
use Rattle.bn_reply.proofs.SettledLemmas.{agree}
use Rattle.bn_reply.specs.Answering.{HasAnswer, IsOneAnswer}
use Rattle.bn_reply.specs.Codes.{IsReplyStatus}
use Rattle.bn_reply.specs.Lines.{line}
use Rattle.bn_reply.specs.declared.status.Status.{Status}
use Rattle.bn_reply.specs.declared.status.Status.TheVariants as statuses
use Rattle.bn_reply_equal.specs.EqualReply.{ComparisonReplies, EqualIsSettled, EqualReplies, StatesReplies}
use Rattle.bn_reply_equal.specs.EqualReply.{TablesReplies, difference_text}
use Rattle.bn_reply_equal.specs.EqualReply as reply
use Rattle.bn_reply_equal.specs.Second.{no_second_line, with_second}
use Rattle.bn_reply_equal.proofs.ReadLemmas.{IsJudged, clash_once, fault_once, judged, no_clash}
use Rattle.bn_reply_equal.proofs.ReadLemmas as read

-- ---- two states

module _ (m n : Machine) (q r : ℕ) where
  comparison_some : q < m.states → r < n.states → (text : List ℕ) × ComparisonReplies m q n r text
  comparison_some one other = by (equal_or_told m n q r one other)
    where
      by : AreEqual (machine_table m) q (machine_table n) r
          ⊎ ((w : List ℕ) × IsLeastDifference (machine_table m) q (machine_table n) r w)
          → (text : List ℕ) × ComparisonReplies m q n r text
      by (inl equal) = (line (codes "equal" ∷ []), reply.equal equal refl)
      by (inr (w, least)) = (
        difference_text w (last_output (machine_table m) q w) (last_output (machine_table n) r w),
        reply.differ w least refl,
      )

  comparison_one : (a b : List ℕ) → ComparisonReplies m q n r a → ComparisonReplies m q n r b → a ≡ b
  comparison_one a b (reply.equal h is) (reply.equal k also) = is ∙ sym also
  comparison_one a b (reply.equal h is) (reply.differ w least also) = absurd (least.differs (h w))
  comparison_one a b (reply.differ w least is) (reply.equal h also) = absurd (least.differs (h w))
  comparison_one a b (reply.differ v least is) (reply.differ w also told) =
      let same = least_differences_are_one (machine_table m) (machine_table n) q r v w least also in
      is ∙ ap (λ (x : List ℕ). difference_text x (last_output (machine_table m) q x)
      (last_output (machine_table n) r x)) same ∙ sym told

-- ---- two machines

less_one : (n : ℕ) → 1 ≤ n → (k : ℕ) × (n ≡ k + 1)
less_one zero h = absurd (omega arith)
less_one (suc k) h = (k, omega arith)

module _ (m n : Machine) (q r : ℕ) where
  states_some : 1 ≤ q → 1 ≤ r → HasAnswer (StatesReplies m q n r)
  states_some some other = by (cases_lt m.states q) (cases_lt n.states r)
    where
      by : (m.states < q) ⊎ (q ≤ m.states) → (n.states < r) ⊎ (r ≤ n.states) → HasAnswer (StatesReplies m q n r)
      by (inl low) second = (statuses.Word, _, [], reply.no_state low refl refl refl)
      by (inr in_it) (inl low) = (statuses.Word, _, [], reply.no_second in_it low refl refl refl)
      by (inr in_it) (inr inside) =
          let one = less_one q some in
          let two = less_one r other in
          let state : one.0 < m.states = let e = one.1 in omega arith in
          let second : two.0 < n.states = let e = two.1 in omega arith in
          let found = comparison_some m n one.0 two.0 state second in
          (statuses.Done, found.0, [], reply.compared one.0 two.0 one.1 two.1 state second found.1 refl refl)

  states_one : IsOneAnswer (StatesReplies m q n r)
  states_one s u a b x y (reply.no_state h is e l) (reply.no_state k also f o) =
      agree statuses.Word s u a b x y e f (is ∙ sym also) l o
  states_one s u a b x y (reply.no_state h is e l) (reply.no_second k low also f o) = absurd (omega arith)
  states_one s u a b x y (reply.no_state h is e l) (reply.compared i j g k low inside told f o) = absurd (omega arith)
  states_one s u a b x y (reply.no_second h low is e l) (reply.no_state k also f o) = absurd (omega arith)
  states_one s u a b x y (reply.no_second h low is e l) (reply.no_second k less also f o) =
      agree statuses.Word s u a b x y e f (is ∙ sym also) l o
  states_one s u a b x y (reply.no_second h low is e l) (reply.compared i j g k less inside told f o) =
      absurd (omega arith)
  states_one s u a b x y (reply.compared i j g k low inside told e l) (reply.no_state h also f o) = absurd (omega arith)
  states_one s u a b x y (reply.compared i j g k low inside told e l) (reply.no_second h less also f o) =
      absurd (omega arith)
  states_one s u a b x y (reply.compared i j g k low inside told e l) (reply.compared c d p w less within also f o) =
      let one : c ≡ i = omega arith in
      let two : d ≡ j = omega arith in
      let first = subst (λ z. ComparisonReplies m z n d b) one also in
      let both = subst (λ z. ComparisonReplies m i n z b) two first in
      agree statuses.Done s u a b x y e f (comparison_one m n i j a b told both) l o

  states_status : (s : Status) (text : List ℕ) (told : List Place) → StatesReplies m q n r s text told → IsReplyStatus s
  states_status s text told (reply.no_state h is e l) = subst IsReplyStatus (sym e) tt
  states_status s text told (reply.no_second h low is e l) = subst IsReplyStatus (sym e) tt
  states_status s text told (reply.compared i j g k low inside is e l) = subst IsReplyStatus (sym e) tt

-- ---- two texts

module _ (q r : ℕ) (first second : List ℕ) where
  tables_some : 1 ≤ q → 1 ≤ r → HasAnswer (TablesReplies q r first second)
  tables_some some other = by (judged first) (judged second)
    where
      by : IsJudged first → IsJudged second → HasAnswer (TablesReplies q r first second)
      by (read.faulty text h) two = (statuses.Text, text, [], reply.faulty h refl refl)
      by (read.clashing text h) (read.faulty refusal k) = (
        statuses.Text,
        with_second refusal,
        [],
        reply.second_faulty h.clashes.found h.clashes.reads refusal k refl refl refl,
      )
      by (read.machine m h) (read.faulty refusal k) =
          (statuses.Text, with_second refusal, [], reply.second_faulty m.moves h.moves refusal k refl refl refl)
      by (read.clashing text h) (read.clashing refusal k) =
          (statuses.Machine, text, [], reply.clashing h k.clashes.found k.clashes.reads refl refl)
      by (read.clashing text h) (read.machine n k) =
          (statuses.Machine, text, [], reply.clashing h n.moves k.moves refl refl)
      by (read.machine m h) (read.clashing refusal k) =
          (statuses.Machine, with_second refusal, [], reply.second_clashing m h refusal k refl refl refl)
      by (read.machine m h) (read.machine n k) =
          let found = states_some m n q r some other in
          (found.0, found.1, found.2, reply.reading m n h k found.3)

  tables_one : IsOneAnswer (TablesReplies q r first second)
  tables_one s u a b x y (reply.faulty h e l) (reply.faulty k f o) =
      agree statuses.Text s u a b x y e f (fault_once first a b h k) l o
  tables_one s u a b x y (reply.faulty h e l) (reply.second_faulty ms k c d is f o) = absurd (h.unread ms k)
  tables_one s u a b x y (reply.faulty h e l) (reply.clashing k ns d f o) =
      absurd (h.unread k.clashes.found k.clashes.reads)
  tables_one s u a b x y (reply.faulty h e l) (reply.second_clashing m k c d is f o) = absurd (h.unread m.moves k.moves)
  tables_one s u a b x y (reply.faulty h e l) (reply.reading m n k d z) = absurd (h.unread m.moves k.moves)
  tables_one s u a b x y (reply.second_faulty ms h c g is e l) (reply.faulty k f o) = absurd (k.unread ms h)
  tables_one s u a b x y (reply.second_faulty ms h c g is e l) (reply.second_faulty ns k d p also f o) =
      agree statuses.Text s u a b x y e f (is ∙ ap with_second (fault_once second c d g p) ∙ sym also) l o
  tables_one s u a b x y (reply.second_faulty ms h c g is e l) (reply.clashing k ns d f o) = absurd (g.unread ns d)
  tables_one s u a b x y (reply.second_faulty ms h c g is e l) (reply.second_clashing m k d p also f o) =
      absurd (g.unread p.clashes.found p.clashes.reads)
  tables_one s u a b x y (reply.second_faulty ms h c g is e l) (reply.reading m n k d z) =
      absurd (g.unread n.moves d.moves)
  tables_one s u a b x y (reply.clashing h ns g e l) (reply.faulty k f o) =
      absurd (k.unread h.clashes.found h.clashes.reads)
  tables_one s u a b x y (reply.clashing h ns g e l) (reply.second_faulty ms k d p also f o) = absurd (p.unread ns g)
  tables_one s u a b x y (reply.clashing h ns g e l) (reply.clashing k ms d f o) =
      agree statuses.Machine s u a b x y e f (clash_once first a b h k) l o
  tables_one s u a b x y (reply.clashing h ns g e l) (reply.second_clashing m k d p also f o) =
      absurd (no_clash first a m h k)
  tables_one s u a b x y (reply.clashing h ns g e l) (reply.reading m n k d z) = absurd (no_clash first a m h k)
  tables_one s u a b x y (reply.second_clashing m h c g is e l) (reply.faulty k f o) = absurd (k.unread m.moves h.moves)
  tables_one s u a b x y (reply.second_clashing m h c g is e l) (reply.second_faulty ms k d p also f o) =
      absurd (p.unread g.clashes.found g.clashes.reads)
  tables_one s u a b x y (reply.second_clashing m h c g is e l) (reply.clashing k ns d f o) =
      absurd (no_clash first b m k h)
  tables_one s u a b x y (reply.second_clashing m h c g is e l) (reply.second_clashing n k d p also f o) =
      agree statuses.Machine s u a b x y e f (is ∙ ap with_second (clash_once second c d g p) ∙ sym also) l o
  tables_one s u a b x y (reply.second_clashing m h c g is e l) (reply.reading p n k d z) =
      absurd (no_clash second c n g d)
  tables_one s u a b x y (reply.reading m n h g t) (reply.faulty k f o) = absurd (k.unread m.moves h.moves)
  tables_one s u a b x y (reply.reading m n h g t) (reply.second_faulty ms k d p also f o) =
      absurd (p.unread n.moves g.moves)
  tables_one s u a b x y (reply.reading m n h g t) (reply.clashing k ns d f o) = absurd (no_clash first b m k h)
  tables_one s u a b x y (reply.reading m n h g t) (reply.second_clashing p k d c also f o) =
      absurd (no_clash second d n c g)
  tables_one s u a b x y (reply.reading m n h g t) (reply.reading k p d c z) =
      let one : k ≡ m = one_machine first k m d h in
      let two : p ≡ n = one_machine second p n c g in
      let moved = subst (λ w. StatesReplies w q p r u b y) one z in
      states_one m n q r s u a b x y t (subst (λ w. StatesReplies m q w r u b y) two moved)

  tables_status : (s : Status) (text : List ℕ) (told : List Place) → TablesReplies q r first second s text told
      → IsReplyStatus s
  tables_status s text told (reply.faulty h e l) = subst IsReplyStatus (sym e) tt
  tables_status s text told (reply.second_faulty ms h c g is e l) = subst IsReplyStatus (sym e) tt
  tables_status s text told (reply.clashing h ns g e l) = subst IsReplyStatus (sym e) tt
  tables_status s text told (reply.second_clashing m h c g is e l) = subst IsReplyStatus (sym e) tt
  tables_status s text told (reply.reading m n h g t) = states_status m n q r s text told t

-- ---- an input

pub equal_settled : EqualIsSettled
equal_settled q r bytes one other = record { some = some; one = alone; status = status }
  where
    some : HasAnswer (EqualReplies q r bytes)
    some = elim (cut_or_not bytes) [
      | inl parts ↦
          let answer = tables_some q r parts.0 parts.1 one other in
          (answer.0, answer.1, answer.2, reply.cut parts.0 parts.1 parts.2 answer.3)
      | inr none ↦ (statuses.Text, no_second_line, [], reply.uncut none refl refl refl)
    ]

    alone : IsOneAnswer (EqualReplies q r bytes)
    alone s u a b x y (reply.uncut none is e l) (reply.uncut _ also f o) =
        agree statuses.Text s u a b x y e f (is ∙ sym also) l o
    alone s u a b x y (reply.uncut none is e l) (reply.cut first second cut answer) =
        absurd (cuts-never_both bytes first second cut none)
    alone s u a b x y (reply.cut first second cut answer) (reply.uncut none is e l) =
        absurd (cuts-never_both bytes first second cut none)
    alone s u a b x y (reply.cut first second cut answer) (reply.cut front rest also told) =
        let same = cuts-one bytes first second front rest cut also in
        let fronts = subst (λ z. TablesReplies q r z rest u b y) (sym same.0) told in
        let rests = subst (λ z. TablesReplies q r first z u b y) (sym same.1) fronts in
        tables_one q r first second s u a b x y answer rests

    status : (s : Status) (text : List ℕ) (told : List Place) → EqualReplies q r bytes s text told → IsReplyStatus s
    status s text told (reply.uncut none is e l) = subst IsReplyStatus (sym e) tt
    status s text told (reply.cut first second cut answer) = tables_status q r first second s text told answer
