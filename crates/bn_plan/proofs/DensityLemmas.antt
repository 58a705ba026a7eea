-- Lemmas on positions: which wires cover one, and where most do.
use Rattle.std.specs.Prelude.{◌≡◌, ◌≢◌, ℕ, zero, suc, ◌+◌, ◌*◌, ◌<◌, ◌≤◌, max, leb, true, false, cond, List, [], ◌∷◌}
use Rattle.std.specs.Prelude.{map, eqb, ◌⊎◌}
use Rattle.std.specs.List.{IsDistinct}
use Rattle.std.proofs.Common.{refl, sym, ◌∙◌, ap, arith, inl, inr}
use Rattle.std.proofs.lemmas.Bool.{cases_lt}
use Rattle.std.proofs.lemmas.Bool.Decides.{leb_tells}
use Rattle.bn_circuits.specs.declared.line.Line.{Line}
use Rattle.bn_circuits.specs.declared.line.Wire.{Wire}
use Rattle.bn_plan.specs.Wires.{output_position, input_position, lesser, greater, Covers, covers, density, IsDensest}
use Rattle.bn_plan.specs.Wires.{HasFourLines, AreRotary}
use Rattle.bn_plan.proofs.ListLemmas.{count-cons, pairwise_weaker, pairwise_map, pairwise_both, pairwise_distinct}

-- ---- what a wire covers

-- the test says it
pub covers_tells : (p : ℕ) (w : Wire) → ((covers p w ≡ true) × Covers p w) ⊎ ((covers p w ≡ false) × (Covers p w → ⊥))
covers_tells p w = elim (leb_tells (lesser w) p) [
  | inl low ↦ elim (leb_tells p (greater w)) [
    | inl high ↦ inl (rw (low.0, high.0) refl, record { starts = low.1; ends = high.1 })
    | inr past ↦ inr (rw (low.0, past.0) refl, λ c. absurd (omega (arith, past.1, c.ends)))
  ]
  | inr early ↦ inr (rw early.0 refl, λ c. absurd (omega (arith, early.1, c.starts)))
]

-- where the test holds, the position is covered
pub covers_is : (p : ℕ) (w : Wire) → covers p w ≡ true → Covers p w
covers_is p w e = elim (covers_tells p w) [
  | inl yes_ ↦ yes_.1
  | inr no_ ↦ let clash : true ≡ false = sym e ∙ no_.0 in absurd (cc)
]

-- where the position is covered, the test holds
pub covers_true : (p : ℕ) (w : Wire) → Covers p w → covers p w ≡ true
covers_true p w c = elim (covers_tells p w) [ inl yes_ ↦ yes_.0 | inr no_ ↦ absurd (no_.1 c) ]

-- and where it isn't, the test fails
covers_false : (p : ℕ) (w : Wire) → (Covers p w → ⊥) → covers p w ≡ false
covers_false p w c = elim (covers_tells p w) [ inl yes_ ↦ absurd (c yes_.1) | inr no_ ↦ no_.0 ]

-- the lesser end is no further than the greater, and covered
pub ends_ordered : (w : Wire) → lesser w ≤ greater w
unfolding lesser greater
ends_ordered w = omega arith

-- a wire covers its lesser end
pub covers_start : (w : Wire) → Covers (lesser w) w
covers_start w = record { starts = let same : lesser w ≡ lesser w = refl in omega (arith, same); ends = ends_ordered w }

-- ---- the greatest density

-- the first of the numbers up to n at which f is greatest
abbrev first_best : (ℕ → ℕ) → ℕ → ℕ
first_best f zero = 0
first_best f (suc n) = cond (leb (f (suc n)) (f (first_best f n))) (first_best f n) (suc n)

-- the greatest position that is covered, 0 where none is
abbrev last_position : List Wire → ℕ
last_position [] = 0
last_position (w ∷ ws) = max (greater w) (last_position ws)

-- the least position of the greatest density
abbrev pub densest : List Wire → ℕ
densest ws = first_best (density ws) (last_position ws)

-- beyond the last position nothing is covered
none_beyond : (ws : List Wire) (q : ℕ) → last_position ws < q → density ws q ≡ 0
none_beyond [] q h = refl
none_beyond (w ∷ ws) q h =
    let miss : covers q w ≡ false = covers_false q w (λ c. absurd (omega (arith, c.ends, h))) in
    let more : density ws q ≡ 0 = none_beyond ws q (omega (arith, h)) in
    let count : density (w ∷ ws) q ≡ 0 + density ws q = count-cons (covers q) w ws
    ∙ ap (λ b. cond b 1 0 + density ws q) miss in
    omega (arith, count, more)

-- p is the first of the numbers up to n at which f is greatest
record IsBest (f : ℕ → ℕ) (n p : ℕ) : Type 0 where
  within : p ≤ n
  greatest : (q : ℕ) → q ≤ n → f q ≤ f p
  first : (q : ℕ) → q < p → f q < f p

-- the function gives it
first_best_is : (f : ℕ → ℕ) (n : ℕ) → IsBest f n (first_best f n)
first_best_is f zero = record {
  within = omega arith;
  greatest = λ q h. let same : q ≡ 0 = omega (arith, h) in let also : f q ≡ f 0 = ap f same in omega (arith, also);
  first = λ q h. absurd (omega (arith, h));
}
first_best_is f (suc n) = let before = first_best_is f n in elim (leb_tells (f (suc n)) (f (first_best f n))) [
  | inl less ↦ rw less.0 (record {
    within = let w = before.within in omega (arith, w);
    greatest = greatest_old (first_best f n) before less.1;
    first = before.first;
  })
  | inr more ↦ rw more.0 (record {
    within = omega arith;
    greatest = greatest_new (first_best f n) before more.1;
    first = λ q h. let low = before.greatest q (omega (arith, h)) in let high = more.1 in omega (arith, low, high);
  })
]
  where
    greatest_new : (p : ℕ) → IsBest f n p → f p < f (suc n) → (q : ℕ) → q ≤ suc n → f q ≤ f (suc n)
    greatest_new p b more q h = elim (cases_lt n q) [
      | inl last ↦ let same : q ≡ suc n = omega (arith, last, h) in let also : f q ≡ f (suc n) =
          ap f same in omega (arith, also)
      | inr low ↦ let bound = b.greatest q low in omega (arith, bound, more)
    ]

    greatest_old : (p : ℕ) → IsBest f n p → f (suc n) ≤ f p → (q : ℕ) → q ≤ suc n → f q ≤ f p
    greatest_old p b less q h = elim (cases_lt n q) [
      | inl last ↦ let same : q ≡ suc n = omega (arith, last, h) in let also : f q ≡ f (suc n) =
          ap f same in omega (arith, also, less)
      | inr low ↦ b.greatest q low
    ]

-- so there is a greatest density, and a least position of it
pub densest_is : (ws : List Wire) → IsDensest ws (density ws (densest ws)) (densest ws)
densest_is ws = let best = first_best_is (density ws) (last_position ws) in record {
  reached = refl;
  greatest = λ q. elim (cases_lt (last_position ws) q) [
    | inl past ↦ let zero_there = none_beyond ws q past in omega (arith, zero_there)
    | inr low ↦ best.greatest q low
  ];
  least = best.first;
}

-- without wires both are 0
pub densest_none : IsDensest [] 0 0
densest_none = record {
  reached = refl;
  greatest = λ q. let none : density [] q ≡ 0 = refl in omega (arith, none);
  least = λ q h. absurd (omega (arith, h));
}

-- and only one
pub densest_once : (ws : List Wire) (d e p q : ℕ) → IsDensest ws d p → IsDensest ws e q → (d ≡ e) × (p ≡ q)
densest_once ws d e p q a b =
    let one = b.greatest p in
    let two = a.greatest q in
    let same : d ≡ e = omega (arith, one, two, a.reached, b.reached) in
    (same, by_order same (cases_lt p q) (cases_lt q p))
  where
    by_order : d ≡ e → (p < q) ⊎ (q ≤ p) → (q < p) ⊎ (p ≤ q) → p ≡ q
    by_order same (inl h) k = let low = b.least p h in absurd (omega (arith, low, same, a.reached))
    by_order same (inr h) (inl k) = let low = a.least q k in absurd (omega (arith, low, same, b.reached))
    by_order same (inr h) (inr k) = omega (arith, h, k)

-- ---- the wires of rotary elements begin at different positions

-- lines with the same numbers are one
same_line : (a b : Line) → a.element ≡ b.element → a.line ≡ b.line → a ≡ b
same_line a b elements lines = λ i. record { element = elements i; line = lines i }

-- two wires that begin at one position share a line
starts_apart : (v w : Wire) → HasFourLines v → HasFourLines w → v.from ≢ w.from → v.to ≢ w.to → lesser v ≢ lesser w
unfolding lesser
starts_apart v w a b from to e = by_ends (cases_lt (output_position v.from) (input_position v.to))
    (cases_lt (output_position w.from) (input_position w.to))
  where
    by_ends : (output_position v.from < input_position v.to) ⊎ (input_position v.to ≤ output_position v.from)
        → (output_position w.from < input_position w.to) ⊎ (input_position w.to ≤ output_position w.from) → ⊥
    by_ends (inl h) (inl k) =
        let same : 8 * v.from.element + v.from.line ≡ 8 * w.from.element + w.from.line = omega (arith, e, h, k) in
        from (same_line v.from w.from (omega (arith, same, a.from, b.from)) (omega (arith, same, a.from, b.from)))
    by_ends (inl h) (inr k) = absurd (omega (arith, e, h, k, a.from, b.to))
    by_ends (inr h) (inl k) = absurd (omega (arith, e, h, k, a.to, b.from))
    by_ends (inr h) (inr k) =
        let same : 8 * v.to.element + 4 + v.to.line ≡ 8 * w.to.element + 4 + w.to.line = omega (arith, e, h, k) in
        to (same_line v.to w.to (omega (arith, same, a.to, b.to)) (omega (arith, same, a.to, b.to)))

-- so the lesser ends are without repeats
pub starts_are_apart : (ws : List Wire) → AreRotary ws → IsDistinct eqb (map lesser ws)
starts_are_apart ws r =
    let both = pairwise_both (λ (v w : Wire). v.from ≢ w.from) (λ (v w : Wire). v.to ≢ w.to) ws r.from_apart r.to_apart
    in
    pairwise_distinct (map lesser ws) (pairwise_map (λ x y. x ≢ y) lesser ws
    (pairwise_weaker (λ (v w : Wire). (v.from ≢ w.from) × (v.to ≢ w.to)) (λ v w. lesser v ≢ lesser w) ws
    (λ v w h k apart. starts_apart v w (r.lines v h) (r.lines w k) apart.0 apart.1) both))
