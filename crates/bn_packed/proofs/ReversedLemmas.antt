-- Ends seen from their other lines, written one after another, and the wiring that they make.
use Rattle.std.specs.Prelude.{◌≡◌, ℕ, ◌+◌, ◌*◌, ◌^◌, ◌<◌, ◌≤◌, List, [], ◌∷◌, length, replicate, Option, Some, None}
use Rattle.std.specs.Prelude.{slice_get, slice_set, option_and_then, ◌⊎◌, refl}
use Rattle.std.proofs.Common.{zero, suc, arith, sym, ap, subst, ◌∙◌, inl, inr}
use Rattle.std.proofs.lemmas.Bool.Decides.{nat_tests}
use Rattle.std.proofs.lemmas.List.{length-replicate}
use Rattle.std.proofs.lemmas.Option.{slice_get_within}
use Rattle.bn_circuits.specs.Circuits.{IsCircuit, IsOneToOne, target}
use Rattle.bn_circuits.proofs.StepLemmas.{slice_get-set_same, slice_get-set_other}
use Rattle.bn_circuits.specs.declared.line.Line.{Line}
use Rattle.bn_circuits.specs.declared.line.Wire.{Wire}
use Rattle.bn_element.specs.declared.rotary.Rotary.{Rotary}
use Rattle.bn_circuits.specs.Parts.{Parts}
use Rattle.bn_circuits.specs.Rows.{entry}
use Rattle.bn_circuits.specs.RotaryNets.{rotary_circuit}
use Rattle.bn_packed.specs.Ends.{nth_line, IsLineBelow, EndList, AreEndsOf, AreReversed, AreTargets, IsWiring, rows_of}
use Rattle.bn_packed.proofs.EndLemmas.{input_below, line_by_number, row_entry, row_entry_past}

-- ---- one end after another

pub set_length : {X : Type 0} (xs : List X) (i : ℕ) (v : X) → length (slice_set xs i v) ≡ length xs
set_length [] i v = refl
set_length (x ∷ xs) zero v = refl
set_length (x ∷ xs) (suc i) v = ap suc (set_length xs i v)

loose_tells : (n j : ℕ) (from : Line) → slice_get (replicate {A = Option Line} n None) j ≡ Some (Some from) → ⊥
loose_tells zero j from h = cc
loose_tells (suc n) zero from h = cc
loose_tells (suc n) (suc j) from h = loose_tells n j from h

-- loose ends alone tell none
pub none_reversed : (e s : EndList) → AreTargets e → s.ends ≡ replicate (4 * e.elements) None
    → AreReversed e.ends 0 s.ends
none_reversed e s are is = record {
  count = ap length is ∙ length-replicate {A = Option Line} (4 * e.elements) None ∙ sym are.whole;
  held = λ i to low. absurd (omega arith);
  only = λ to from low h. absurd (loose_tells (4 * e.elements) (4 * to.element + to.line) from
      (ap (λ xs. slice_get xs (4 * to.element + to.line)) (sym is) ∙ h));
}

by_number : (a b : Line) → a.line < 4 → b.line < 4 → 4 * a.element + a.line ≡ 4 * b.element + b.line → a ≡ b
by_number a b low_a low_b is = sym (line_by_number a (4 * a.element + a.line) low_a refl)
    ∙ line_by_number b (4 * a.element + a.line) low_b is

sides : (i n : ℕ) → i < n + 1 → (i < n) ⊎ (i ≡ n)
sides i n low = grind (arith, nat_tests)

ways : (a b : ℕ) → (a ≡ b) ⊎ (a ≡ b → ⊥)
ways a b = elim (three a b) [
  | inl less ↦ inr (λ is. omega arith)
  | inr (inl is) ↦ inl is
  | inr (inr more) ↦ inr (λ is. omega arith)
]
  where
    three : (a b : ℕ) → (a < b) ⊎ ((a ≡ b) ⊎ (b < a))
    three a b = grind (arith, nat_tests)

-- an end that leads nowhere
pub loose_reversed : (e : EndList) (n : ℕ) (back : List (Option Line)) → slice_get e.ends n ≡ Some None
    → AreReversed e.ends n back
    → AreReversed e.ends (n + 1) back
loose_reversed e n back none so_far = record {
  count = so_far.count;
  held = λ i to low has. at i to has (sides i n low);
  only = λ to from low h. let found = so_far.only to from low h in (found.0, omega (arith, found.1), found.2, found.3);
}
  where
    at : (i : ℕ) (to : Line) → slice_get e.ends i ≡ Some (Some to) → (i < n) ⊎ (i ≡ n)
        → slice_get back (4 * to.element + to.line) ≡ Some (Some (nth_line i))
    at i to has (inl below) = so_far.held i to below has
    at i to has (inr here) = let h = ap (slice_get e.ends) here in absurd (cc)

-- an end that leads to a line
pub more_reversed : (e : EndList) (n : ℕ) (to : Line) (back after : List (Option Line)) → AreTargets e
    → slice_get e.ends n ≡ Some (Some to)
    → after ≡ slice_set back (4 * to.element + to.line) (Some (nth_line n)) → AreReversed e.ends n back
    → AreReversed e.ends (n + 1) after
more_reversed e n to back after are here is so_far = record {
  count = ap length is ∙ set_length back k (Some (nth_line n)) ∙ so_far.count;
  held = λ i t low has. at i t has (sides i n low);
  only = λ t from low h. from_where t from low h (ways (4 * t.element + t.line) k);
}
  where
    k : ℕ
    k = 4 * to.element + to.line

    below : IsLineBelow e.elements to
    below = are.inside n to here

    within : k < length back
    within = let element = below.element in let line = below.line in let whole = are.whole in let count =
        so_far.count in omega arith

    written : slice_get after k ≡ Some (Some (nth_line n))
    written = ap (λ xs. slice_get xs k) is ∙ slice_get-set_same back k (Some (nth_line n)) within

    other : (t : Line) → (4 * t.element + t.line ≡ k → ⊥) → slice_get after (4 * t.element + t.line)
        ≡ slice_get back (4 * t.element + t.line)
    other t off = ap (λ xs. slice_get xs (4 * t.element + t.line)) is
        ∙ slice_get-set_other back k (4 * t.element + t.line) (Some (nth_line n)) off

    at : (i : ℕ) (t : Line) → slice_get e.ends i ≡ Some (Some t) → (i < n) ⊎ (i ≡ n)
        → slice_get after (4 * t.element + t.line) ≡ Some (Some (nth_line i))
    at i t has (inl low) = other t off ∙ so_far.held i t low has
      where
        off : 4 * t.element + t.line ≡ k → ⊥
        off same =
            let one : t ≡ to = by_number t to (are.inside i t has).line below.line same in
            let number : i ≡ n = are.apart i n to (has ∙ ap (λ x. Some (Some x)) one) here in
            omega arith
    at i t has (inr last) =
        let one : t ≡ to = (let h : slice_get e.ends n ≡ Some (Some t) = ap (slice_get e.ends) (sym last) ∙ has in cc)
        in
        ap (λ (l : Line). slice_get after (4 * l.element + l.line)) one ∙ written
        ∙ ap (λ j. Some (Some (nth_line j))) (sym last)

    from_where : (t from : Line) → t.line < 4 → slice_get after (4 * t.element + t.line) ≡ Some (Some from)
        → ((4 * t.element + t.line ≡ k) ⊎ (4 * t.element + t.line ≡ k → ⊥))
        → (i : ℕ) × (i < n + 1) × (from ≡ nth_line i) × (slice_get e.ends i ≡ Some (Some t))
    from_where t from low h (inl same) =
        let one : t ≡ to = by_number t to low below.line same in
        let told : Some (Some from) ≡ Some (Some (nth_line n)) = sym h ∙ ap (slice_get after) same ∙ written in
        (n, omega arith, cc, here ∙ ap (λ x. Some (Some x)) (sym one))
    from_where t from low h (inr off) =
        let found = so_far.only t from low (sym (other t off) ∙ h) in
        (found.0, omega (arith, found.1), found.2, found.3)

-- what is read of a line is read in its place
pub by_line : (ends : List (Option Line)) (n : ℕ) (l : Line) (o : Option Line) → l ≡ nth_line n
    → slice_get ends (4 * l.element + l.line) ≡ Some o
    → slice_get ends n ≡ Some o
by_line ends n l o is has =
    let number : 4 * l.element + l.line ≡ n = (let e = ap (λ (x : Line). x.element) is in let l = ap
    (λ (x : Line). x.line) is in omega arith) in
    ap (slice_get ends) (sym number) ∙ has

-- ---- the wiring

told : (o : Option (Option Line)) (to : Line) → option_and_then (λ x. x) o ≡ Some to → o ≡ Some (Some to)
told None to h = absurd (cc)
told (Some None) to h = absurd (cc)
told (Some (Some x)) to h = ap Some h

-- what is read of a line in rows of four
read : (e : EndList) (from to : Line) → length e.ends ≡ 4 * e.elements → entry (rows_of e.ends) from ≡ Some to
    → (from.line < 4) × (slice_get e.ends (4 * from.element + from.line) ≡ Some (Some to))
read e from to whole h = by_line ways_of
  where
    ways_of : (4 ≤ from.line) ⊎ (from.line < 4)
    ways_of = grind (arith, nat_tests)

    by_line : (4 ≤ from.line) ⊎ (from.line < 4) → (from.line < 4)
        × (slice_get e.ends (4 * from.element + from.line) ≡ Some (Some to))
    by_line (inl high) = let none = row_entry_past e.ends from.element from.line high in absurd (cc)
    by_line (inr low) = (
      low,
      told (slice_get e.ends (4 * from.element + from.line)) to
          (sym (row_entry e.ends e.elements from.element from.line (4 * from.element + from.line) whole low refl) ∙ h),
    )

says : (e : EndList) (from to : Line) → length e.ends ≡ 4 * e.elements → from.line < 4
    → slice_get e.ends (4 * from.element + from.line) ≡ Some (Some to) → entry (rows_of e.ends) from ≡ Some to
says e from to whole low has =
    row_entry e.ends e.elements from.element from.line (4 * from.element + from.line) whole low refl ∙ rw has refl

-- the ends and the same seen from their other lines are one wiring
pub reversed-IsWiring : (e s : EndList) → AreTargets e → s.elements ≡ e.elements
    → AreReversed e.ends (length e.ends) s.ends → IsWiring e s
reversed-IsWiring e s are same back = record {
  same = same;
  few = are.few;
  all_targets = are.whole;
  all_sources = back.count ∙ are.whole;
  paired = λ from to. (
    λ h.
        let has = read e from to are.whole h in
        let within = slice_get_within e.ends (4 * from.element + from.line) (Some to) has.1 in
        says s to from whole (are.inside (4 * from.element + from.line) to has.1).line
        (back.held (4 * from.element + from.line) to within has.1
        ∙ ap (λ x. Some (Some x)) (line_by_number from (4 * from.element + from.line) has.0 refl)),
    λ h.
        let has = read s to from whole h in
        let found = back.only to from has.0 has.1 in
        let line : from ≡ nth_line found.0 = found.2 in
        let low : from.line < 4 = ap-low found.0 line in
        says e from to are.whole low (ap (slice_get e.ends) (number found.0 line) ∙ found.3),
  );
}
  where
    whole : length s.ends ≡ 4 * s.elements
    whole = back.count ∙ are.whole ∙ ap (λ n. 4 * n) (sym same)

    ap-low : {from : Line} (i : ℕ) → from ≡ nth_line i → from.line < 4
    ap-low i is = let l = ap (λ (x : Line). x.line) is in omega arith

    number : {from : Line} (i : ℕ) → from ≡ nth_line i → 4 * from.element + from.line ≡ i
    number i is = let e = ap (λ (x : Line). x.element) is in let l = ap (λ (x : Line). x.line) is in omega arith

-- ---- where such ends come from

pub ends-AreTargets : (ws : List Wire) (n : ℕ) (e : EndList) → n < 2 ^ 32 → AreEndsOf (target ws) n e → IsOneToOne ws
    → ((from to : Line) → target ws from ≡ Some to → IsLineBelow n to) → AreTargets e
ends-AreTargets ws n e few ends one_to_one below = record {
  few = subst (λ k. k < 2 ^ 32) (sym ends.elements) few;
  whole = ends.ends.count ∙ ap (λ k. 4 * k) (sym ends.elements);
  inside = λ i to has. subst (λ k. IsLineBelow k to) (sym ends.elements) (below (nth_line i) to (leads i to has));
  apart = λ i j to has_i has_j.
      let one = (one_to_one (nth_line i) to).0 (leads i to has_i) in
      let two = (one_to_one (nth_line j) to).0 (leads j to has_j) in
      let same : nth_line i ≡ nth_line j = cc in
      let element = ap (λ (x : Line). x.element) same in
      let line = ap (λ (x : Line). x.line) same in
      omega arith;
}
  where
    leads : (i : ℕ) (to : Line) → slice_get e.ends i ≡ Some (Some to) → target ws (nth_line i) ≡ Some to
    leads i to has =
        let within = slice_get_within e.ends i (Some to) has in
        let count = ends.ends.count in
        let says = ends.ends.each i (omega arith) in
        cc

-- of a net's wires
pub net-AreTargets : (net : Parts Rotary) (e : EndList) → IsCircuit (rotary_circuit net) → length net.elements < 2 ^ 32
    → AreEndsOf (target net.wires) (length net.elements) e → AreTargets e
net-AreTargets net e circuit few ends =
    ends-AreTargets net.wires (length net.elements) e few ends circuit.one_to_one
    (λ from to is. input_below net.elements to (circuit.wired from to is).1)
