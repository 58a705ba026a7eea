-- Standard form by tests of each quintuple with its number.
use Rattle.std.specs.Prelude.{◌⊎◌, Some, slice_get, length}
use Rattle.std.proofs.Common.{◌≡◌, ◌∙◌, ◌<◌, ◌+◌, ◌∷◌, [], ℕ, zero, suc, List, Bool, true, ◌&&◌, ◌||◌, eqb, ltb, sym}
use Rattle.std.proofs.Common.{ap, subst, arith, inl, inr}
use Rattle.std.proofs.lemmas.Bool.{and_parts, or_cases, eqb-true, ltb-true}
use Rattle.bn_machine.specs.Machine.{start_of, final_of}
use Rattle.bn_lists.specs.Lists.{nth}
use Rattle.bn_machine.specs.declared.quint.Quint.{Quint}
use Rattle.bn_machine.specs.Standard.{NamesStart, NamesFinal, IsUnambiguous, HasLoneStart, HasLoneFinal}

-- each quintuple passes the test with its number, the first one's as said
abbrev pub passes : (ℕ → Quint → Bool) → ℕ → List Quint → Bool
passes test first [] = true
passes test first (q ∷ qs) = test first q && passes test (suc first) qs

passes_at : (test : ℕ → Quint → Bool) (first : ℕ) (qs : List Quint) (i : ℕ) (q : Quint) →
    passes test first qs ≡ true → slice_get qs i ≡ Some q → test (first + i) q ≡ true
passes_at test first [] i q all here = absurd (cc)
passes_at test first (r ∷ qs) zero q all here =
    let number : first + 0 ≡ first = omega arith in
    let same : r ≡ q = cc in
    let here_passes = (and_parts (test first r) (passes test (suc first) qs) all).0 in
    subst (λ (n : ℕ). test n q ≡ true) (sym number) (subst (λ (x : Quint). test first x ≡ true) same here_passes)
passes_at test first (r ∷ qs) (suc i) q all here =
    let number : suc first + i ≡ first + suc i = omega arith in
    subst (λ (n : ℕ). test n q ≡ true) number (passes_at test (suc first) qs i q
    (and_parts (test first r) (passes test (suc first) qs) all).1 here)

pub passes_nth : (test : ℕ → Quint → Bool) (qs : List Quint) (n : ℕ) (q : Quint) → passes test 1 qs ≡ true
    → nth qs n ≡ Some q → test n q ≡ true
passes_nth test qs zero q all here = absurd (cc)
passes_nth test qs (suc i) q all here = let number : 1 + i ≡ suc i =
    omega arith in subst (λ (n : ℕ). test n q ≡ true) number (passes_at test 1 qs i q all here)

-- ---- the three demands on all quintuples

-- its state and its scanned symbol tell its number
abbrev pub tells_number : (ℕ → ℕ → ℕ) → ℕ → Quint → Bool
tells_number place n q = eqb (place q.state q.read) n

pub apart : (place : ℕ → ℕ → ℕ) (qs : List Quint) → passes (tells_number place) 1 qs ≡ true → IsUnambiguous qs
apart place qs all = record {
  none = λ i j r.
      let one : place r.first.state r.first.read ≡ i = eqb-true _ _
      (passes_nth (tells_number place) qs i r.first all r.first_stands) in
      let two : place r.second.state r.second.read ≡ j = eqb-true _ _
      (passes_nth (tells_number place) qs j r.second all r.second_stands) in
      let states : place r.first.state r.first.read ≡ place r.second.state r.first.read =
      ap (λ (s : ℕ). place s r.first.read) r.clashes.state in
      let reads : place r.second.state r.first.read ≡ place r.second.state r.second.read =
      ap (place r.second.state) r.clashes.read in
      let same : i ≡ j = sym one ∙ states ∙ reads ∙ two in
      omega (arith, same, r.clashes.before);
}

-- it doesn't lead to state 0, and only the first is one of state 0
abbrev pub avoids_start : ℕ → Quint → Bool
avoids_start n q = ltb 0 q.next && (ltb 0 q.state || eqb n 1)

names_no_start : (n : ℕ) (q : Quint) → avoids_start n q ≡ true → NamesStart 0 n q → ⊥
names_no_start n q passed (inl next) = let low : 0 < q.next =
    ltb-true 0 q.next (and_parts _ _ passed).0 in omega (arith, low, next)
names_no_start n q passed (inr later) = by_state (or_cases _ _ (and_parts _ _ passed).1)
  where
    by_state : (ltb 0 q.state ≡ true) ⊎ (eqb n 1 ≡ true) → ⊥
    by_state (inl above) = let low : 0 < q.state = ltb-true 0 q.state above in omega (arith, low, later.1)
    by_state (inr first) = let one : n ≡ 1 = eqb-true n 1 first in omega (arith, one, later.0)

pub lone_start : (qs : List Quint) → start_of qs ≡ 0 → passes avoids_start 1 qs ≡ true → HasLoneStart qs
lone_start qs start all = record {
  none = λ i u.
      names_no_start i u.quint (passes_nth avoids_start qs i u.quint all u.stands)
      (subst (λ (s : ℕ). NamesStart s i u.quint) start u.names);
}

-- it is of a lower state than the final one, and so is the next state, but for the last one of all
abbrev pub avoids_final : ℕ → ℕ → ℕ → Quint → Bool
avoids_final final count n q = ltb q.state final && (ltb q.next final || eqb n count)

names_no_final : (final count n : ℕ) (q : Quint) → avoids_final final count n q ≡ true → NamesFinal final count n q → ⊥
names_no_final final count n q passed (inl state) = let low : q.state < final =
    ltb-true q.state final (and_parts _ _ passed).0 in omega (arith, low, state)
names_no_final final count n q passed (inr early) = by_next (or_cases _ _ (and_parts _ _ passed).1)
  where
    by_next : (ltb q.next final ≡ true) ⊎ (eqb n count ≡ true) → ⊥
    by_next (inl below) = let low : q.next < final = ltb-true q.next final below in omega (arith, low, early.1)
    by_next (inr last) = let end : n ≡ count = eqb-true n count last in omega (arith, end, early.0)

pub lone_final : (qs : List Quint) (final count : ℕ) → final_of qs ≡ final → length qs ≡ count
    → passes (avoids_final final count) 1 qs ≡ true → HasLoneFinal qs
lone_final qs final count end counted all = record {
  none = λ i u.
      let names : NamesFinal final count i u.quint =
      subst (λ (c : ℕ). NamesFinal final c i u.quint) counted (subst (λ (f : ℕ). NamesFinal f (length qs) i u.quint) end
      u.names) in
      names_no_final final count i u.quint (passes_nth (avoids_final final count) qs i u.quint all u.stands) names;
}
