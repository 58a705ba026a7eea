-- The index by state is made from the back of the list, and a search goes by it from the front.
use Rattle.std.specs.Prelude.{◌≡◌, ℕ, zero, suc, ◌<◌, ◌≤◌, ◌-◌, List, Option, Some, None, length, replicate, map, All}
use Rattle.std.specs.Prelude.{◌⊎◌}
use Rattle.std.proofs.Common.{refl, sym, subst, arith, get_or, set, inl, inr}
use Rattle.std.proofs.lemmas.Bool.{cases_lt, cases_eq}
use Rattle.std.proofs.lemmas.List.{get_or-set_same, get_or-set_other, get_or_read}
use Rattle.std.proofs.lemmas.List.Elements.{All-map}
use Rattle.bn_lists.specs.Lists.{AllBefore, nth}
use Rattle.bn_lists.proofs.ListLemmas.{nth_within, nth_once, all_before_one, all_before_more}
use Rattle.bn_quad.specs.Quadruples.{Deed, Rewrite, Move, Rule, Configuration, AppliesTo, HasNoRule, Quadruples}
use Rattle.bn_quad.specs.Quadruples.{IsQuadMachine}
use Rattle.bn_quad.specs.Kept.{Agree, IsUnmixed, act_of, quad_of, read_of}
use Rattle.bn_quad.specs.Index.{LeavesBehind, IsNextLeaving, IsIndexOf}
use Rattle.bn_quad.specs.declared.state_index.StateIndex.{StateIndex}
use Rattle.bn_quad.specs.declared.quad.Quad.{Quad}

-- ---- making the index

-- each state has its first quadruple behind the m-th, and each quadruple behind the m-th has the next one of its state
pub record AreLinked (rs : List (Rule ℕ)) (m : ℕ) (firsts nexts : List (Option ℕ)) : Type 0 where
  pub first : (state : ℕ) → IsNextLeaving rs state m (get_or firsts state None)
  pub next : (k : ℕ) (r : Rule ℕ) → m ≤ k → nth rs (suc k) ≡ Some r
      → IsNextLeaving rs r.from (suc k) (get_or nexts k None)

none_at : (n k : ℕ) → ◌≡◌ {A = Option ℕ} (get_or (replicate n None) k None) None
none_at zero k = refl
none_at (suc n) zero = refl
none_at (suc n) (suc k) = none_at n k

-- no quadruple stands behind the last
pub none_linked : (rs : List (Rule ℕ)) (m states : ℕ) (nexts : List (Option ℕ)) → length rs ≤ m
    → AreLinked rs m (replicate states None) nexts
none_linked rs m states nexts past = record {
  first = λ state. subst (IsNextLeaving rs state m) (sym (none_at states state))
      (λ n h. let known : n ≤ length rs = nth_within rs n h.rule h.stands in let behind : m
      < n = h.behind in absurd (omega arith));
  next = λ k r low here. let known : suc k ≤ length rs = nth_within rs (suc k) r here in absurd (omega arith);
}

-- what leaves a state behind a quadruple of another state leaves it behind the next one
further : (rs : List (Rule ℕ)) (state i n : ℕ) (r : Rule ℕ) → nth rs (suc i) ≡ Some r → (r.from ≡ state → ⊥)
    → LeavesBehind rs state i n → LeavesBehind rs state (suc i) n
further rs state i n r here other h = by_place (cases_eq n (suc i))
  where
    by_place : (n ≡ suc i) ⊎ (n ≡ suc i → ⊥) → LeavesBehind rs state (suc i) n
    by_place (inl same) =
        let one : h.rule ≡ r = nth_once rs (suc i) h.rule r (subst (λ k. nth rs k ≡ Some h.rule) same h.stands) here in
        absurd (other (subst (λ (s : Rule ℕ). s.from ≡ state) one h.from))
    by_place (inr apart) = let behind : i < n = h.behind in record
        { behind = omega arith; rule = h.rule; stands = h.stands; from = h.from }

nearer : (rs : List (Rule ℕ)) (state i n : ℕ) → LeavesBehind rs state (suc i) n → LeavesBehind rs state i n
nearer rs state i n h = let behind : suc i < n = h.behind in record
    { behind = omega arith; rule = h.rule; stands = h.stands; from = h.from }

-- the next of a state behind a quadruple of another state is the next behind the one before it
one_before : (rs : List (Rule ℕ)) (state i : ℕ) (r : Rule ℕ) (o : Option ℕ) → nth rs (suc i) ≡ Some r
    → (r.from ≡ state → ⊥) → IsNextLeaving rs state (suc i) o → IsNextLeaving rs state i o
one_before rs state i r None here other none = λ n h. none n (further rs state i n r here other h)
one_before rs state i r (Some n) here other is = record {
  holds = nearer rs state i n is.holds;
  least = λ m low h. is.least m low (further rs state i m r here other h);
}

-- the next behind a quadruple's place is the quadruple itself
itself : (rs : List (Rule ℕ)) (i : ℕ) (r : Rule ℕ) → nth rs (suc i) ≡ Some r → IsNextLeaving rs r.from i (Some (suc i))
itself rs i r here = record {
  holds = record { behind = omega arith; rule = r; stands = here; from = refl };
  least = λ m low h. let behind : i < m = h.behind in absurd (omega arith);
}

-- one quadruple more at the front of those that are linked
pub one_linked : (rs : List (Rule ℕ)) (i : ℕ) (r : Rule ℕ) (firsts nexts : List (Option ℕ)) → nth rs (suc i) ≡ Some r
    → r.from < length firsts → i < length nexts →
    AreLinked rs (suc i) firsts nexts → AreLinked rs i (set firsts r.from (Some (suc i)))
    (set nexts i (get_or firsts r.from None))
one_linked rs i r firsts nexts here state_inside inside l = record { first = first_of; next = next_of }
  where
    first_of : (state : ℕ) → IsNextLeaving rs state i (get_or (set firsts r.from (Some (suc i))) state None)
    first_of state = by_state (cases_eq state r.from)
      where
        by_state : (state ≡ r.from) ⊎ (state ≡ r.from → ⊥) → IsNextLeaving rs state i
            (get_or (set firsts r.from (Some (suc i))) state None)
        by_state (inl same) = subst (λ s. IsNextLeaving rs s i (get_or (set firsts r.from (Some (suc i))) s None))
            (sym same)
            (subst (IsNextLeaving rs r.from i) (sym (get_or-set_same firsts r.from (Some (suc i)) None state_inside))
            (itself rs i r here))
        by_state (inr apart) = subst (IsNextLeaving rs state i) (sym
            (get_or-set_other firsts r.from state (Some (suc i)) None apart))
            (one_before rs state i r (get_or firsts state None) here (λ e. apart (sym e)) (l.first state))

    next_of : (k : ℕ) (s : Rule ℕ) → i ≤ k → nth rs (suc k) ≡ Some s
        → IsNextLeaving rs s.from (suc k) (get_or (set nexts i (get_or firsts r.from None)) k None)
    next_of k s low there = by_place (cases_eq k i)
      where
        by_place : (k ≡ i) ⊎ (k ≡ i → ⊥) → IsNextLeaving rs s.from (suc k)
            (get_or (set nexts i (get_or firsts r.from None)) k None)
        by_place (inl same) =
            let one : r ≡ s = nth_once rs (suc i) r s here (subst (λ j. nth rs (suc j) ≡ Some s) same there) in
            let here_linked : IsNextLeaving rs s.from (suc i) (get_or firsts r.from None) =
            subst (λ (t : Rule ℕ). IsNextLeaving rs t.from (suc i) (get_or firsts r.from None)) one (l.first r.from)
            in
            subst (λ j. IsNextLeaving rs s.from (suc j) (get_or (set nexts i (get_or firsts r.from None)) j None))
            (sym same)
            (subst (IsNextLeaving rs s.from (suc i)) (sym (get_or-set_same nexts i (get_or firsts r.from None) None
            inside)) here_linked)
        by_place (inr apart) = subst (IsNextLeaving rs s.from (suc k))
            (sym (get_or-set_other nexts i k (get_or firsts r.from None) None apart))
            (l.next k s (omega arith) there)

-- one quadruple more, as the program writes it
pub linked_more : (rs : List (Rule ℕ)) (i m number : ℕ) (r : Rule ℕ) (firsts nexts : List (Option ℕ)) (x : Option ℕ)
    → suc i ≡ m → suc i ≡ number → nth rs (suc i) ≡ Some r →
    r.from < length firsts → i < length nexts → x ≡ get_or firsts r.from x → AreLinked rs m firsts nexts
    → AreLinked rs i (set firsts r.from (Some number)) (set nexts i x)
linked_more rs i m number r firsts nexts x above same here state_inside inside read l =
    let is : x ≡ get_or firsts r.from None = get_or_read firsts r.from x state_inside read None in
    let all : AreLinked rs i (set firsts r.from (Some (suc i))) (set nexts i (get_or firsts r.from None)) =
    one_linked rs i r firsts nexts here state_inside inside (subst (λ j. AreLinked rs j firsts nexts) (sym above) l)
    in
    subst (λ j. AreLinked rs i (set firsts r.from (Some j)) (set nexts i x)) same
    (subst (λ y. AreLinked rs i (set firsts r.from (Some (suc i))) (set nexts i y)) (sym is) all)

-- when all are linked, the index is made
pub index_of : (rs : List (Rule ℕ)) (m : ℕ) (index : StateIndex) → m ≡ 0 → length index.next.items ≡ length rs
    → AreLinked rs m index.first.items index.next.items → IsIndexOf rs index
index_of rs m index front listed l =
    let all : AreLinked rs 0 index.first.items index.next.items =
    subst (λ j. AreLinked rs j index.first.items index.next.items) front l in
    record { first = all.first; next = λ k r here. all.next k r (omega arith) here; listed = listed }

-- ---- the search by the index

-- no quadruple before the n-th applies, and there is an n-th
pub record IsSearchedTo (rs : List (Rule ℕ)) (c : Configuration ℕ) (n : ℕ) : Type 0 where
  pub before : AllBefore (λ s. AppliesTo s c → ⊥) rs n
  pub rule : Rule ℕ
  pub stands : nth rs n ≡ Some rule
  pub from : rule.from ≡ c.state
  pub counted : 1 ≤ n
  pub within : n ≤ length rs

-- what a search has come to: a quadruple, with none before it that applies, or the end
abbrev pub IsSearched : List (Rule ℕ) → Configuration ℕ → Option ℕ → Type 0
IsSearched rs c None = HasNoRule rs c
IsSearched rs c (Some n) = IsSearchedTo rs c n

-- a search goes on from the m-th quadruple to the next one of its state
pub searched_on : (rs : List (Rule ℕ)) (c : Configuration ℕ) (m : ℕ) (o : Option ℕ)
    → AllBefore (λ s. AppliesTo s c → ⊥) rs (suc m) → IsNextLeaving rs c.state m o → IsSearched rs c o
searched_on rs c m None before none = record {
  none = λ n r here applies. by_place n r here applies (cases_lt n (suc m));
}
  where
    by_place : (n : ℕ) (r : Rule ℕ) → nth rs n ≡ Some r → AppliesTo r c → (n < suc m) ⊎ (suc m ≤ n) → ⊥
    by_place n r here applies (inl low) = before.each n r low here applies
    by_place n r here applies (inr high) = none n (record {
      behind = omega arith;
      rule = r;
      stands = here;
      from = sym applies.from;
    })
searched_on rs c m (Some n) before is = record {
  before = record { each = λ k r low here applies. by_place k r low here applies (cases_lt k (suc m)) };
  rule = is.holds.rule;
  stands = is.holds.stands;
  from = is.holds.from;
  counted = let behind : m < n = is.holds.behind in omega arith;
  within = nth_within rs n is.holds.rule is.holds.stands;
}
  where
    by_place : (k : ℕ) (r : Rule ℕ) → k < n → nth rs k ≡ Some r → AppliesTo r c → (k < suc m) ⊎ (suc m ≤ k) → ⊥
    by_place k r low here applies (inl passed) = before.each k r passed here applies
    by_place k r low here applies (inr high) = is.least k low (record
        { behind = omega arith; rule = r; stands = here; from = sym applies.from })

pub searched_first : (rs : List (Rule ℕ)) (c : Configuration ℕ) (o : Option ℕ) → IsNextLeaving rs c.state 0 o
    → IsSearched rs c o
searched_first rs c o is = searched_on rs c 0 o (all_before_one (λ s. AppliesTo s c → ⊥) rs) is

-- from a quadruple that doesn't apply it goes on to the next one of its state
pub searched_more : (rs : List (Rule ℕ)) (c : Configuration ℕ) (n : ℕ) (index : StateIndex) (r : Rule ℕ) (o : Option ℕ)
    → IsIndexOf rs index → IsSearchedTo rs c n → nth rs n ≡ Some r → (AppliesTo r c → ⊥) →
    o ≡ get_or index.next.items (n - 1) o → IsSearched rs c o
searched_more rs c zero index r o is at here lacks read = let counted : 1 ≤ 0 = at.counted in absurd (omega arith)
searched_more rs c (suc k) index r o is at here lacks read =
    searched_on rs c (suc k) o (all_before_more (λ s. AppliesTo s c → ⊥) rs (suc k) r at.before here lacks) behind
  where
    place : suc k - 1 ≡ k
    place = omega arith

    behind : IsNextLeaving rs c.state (suc k) o
    behind =
        let within : suc k ≤ length rs = at.within in
        let listed : length index.next.items ≡ length rs = is.listed in
        let same : o ≡ get_or index.next.items k None = get_or_read index.next.items k o (omega arith)
        (rw place at read) None in
        subst (λ s. IsNextLeaving rs s (suc k) o) at.from (subst (IsNextLeaving rs at.rule.from (suc k)) (sym same)
        (is.next k at.rule at.stands))

-- how many quadruples stand from there to the end
abbrev pub left_from : ℕ → Option ℕ → ℕ
left_from count None = 0
left_from count (Some n) = suc count - n

-- ---- the quadruples of a machine

agreed : (d : Deed) → Agree (read_of d) (act_of d)
agreed (Rewrite read written) = tt
agreed (Move s) = tt

-- a rule is kept as a quadruple that reads and writes the same tapes
pub rules_unmixed : (rs : List (Rule ℕ)) → All IsUnmixed (map quad_of rs)
rules_unmixed rs = All-map IsUnmixed quad_of rs (λ k d inside. let r = get_or rs k d in record
    { one = agreed r.one; two = agreed r.two; three = agreed r.three })

pub states_in_range : (p : Quadruples) → IsQuadMachine p → All (λ (q : Quad). q.state < p.states) (map quad_of p.rules)
states_in_range p h = All-map (λ (q : Quad). q.state < p.states) quad_of p.rules
    (λ k d inside. (h.in_range k d inside).from)
