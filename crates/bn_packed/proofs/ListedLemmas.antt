-- The ends of a list of wires, written one wire after another, and the net that they make.
use Rattle.std.specs.Prelude.{◌≡◌, ◌⊎◌, ℕ, ◌+◌, ◌*◌, ◌^◌, ◌<◌, ◌≤◌, List, [], ◌∷◌, ◌++◌, length, replicate, take}
use Rattle.std.specs.Prelude.{Option, Some, None, if◌then◌else◌, slice_get, slice_set, refl}
use Rattle.std.proofs.Common.{zero, suc, get_or, arith, sym, ap, subst, ◌∙◌, inl, inr}
use Rattle.std.proofs.lemmas.Bool.Decides.{nat_tests}
use Rattle.std.proofs.lemmas.List.{length-replicate, take_more}
use Rattle.std.proofs.lemmas.Option.{slice_get-get_or}
use Rattle.bn_circuits.specs.Circuits.{target, same_line}
use Rattle.bn_circuits.proofs.StepLemmas.{slice_get-set_same, slice_get-set_other}
use Rattle.bn_circuits.specs.declared.line.Line.{Line}
use Rattle.bn_circuits.specs.declared.line.Wire.{Wire}
use Rattle.bn_element.specs.declared.rotary.Rotary.{Rotary}
use Rattle.bn_circuits.specs.Parts.{Parts}
use Rattle.bn_circuits.specs.Order.{AreInOrder}
use Rattle.bn_circuits.proofs.WireLemmas.{target-wires}
use Rattle.bn_circuits.proofs.WireListLemmas.{line_tells, target-push}
use Rattle.bn_circuits.proofs.OrderLemmas.{rows_in_order}
use Rattle.bn_circuits.specs.RotaryNets.{IsNetOf}
use Rattle.bn_circuits.specs.Wirings.{AreApart, AreFitting}
use Rattle.bn_circuits.proofs.WiringsLemmas.{apart-IsOneToOne, earlier_target}
use Rattle.bn_packed.specs.Ends.{nth_line, opposite, ahead, targets_by, IsLineBelow, EndList, AreEndsOf, AreTargets}
use Rattle.bn_packed.specs.Ends.{rows_of, rotaries, net_of}
use Rattle.bn_packed.proofs.AcrossLemmas.{opposite_below, test_across, ahead-AreTargets, targets_ahead}
use Rattle.bn_packed.proofs.EndLemmas.{line_by_number, ends_entry}
use Rattle.bn_packed.proofs.ReversedLemmas.{set_length, ends-AreTargets}

-- ---- one end

all_loose : (n i : ℕ) → i < n → slice_get (replicate {A = Option Line} n None) i ≡ Some None
all_loose zero i low = absurd (omega arith)
all_loose (suc n) zero low = refl
all_loose (suc n) (suc i) low = all_loose n i (omega arith)

-- loose ends alone are those of no wire
pub loose_ends : (f : Line → Option Line) (n : ℕ) (e : EndList) → ((l : Line) → f l ≡ None) → e.elements ≡ n
    → e.ends ≡ replicate (4 * n) None
    → AreEndsOf f n e
loose_ends f n e none elements is = record {
  elements = elements;
  ends = record {
    count = ap length is ∙ length-replicate {A = Option Line} (4 * n) None;
    each = λ i low. ap (λ xs. slice_get xs i) is ∙ all_loose (4 * n) i low ∙ ap Some (sym (none (nth_line i)));
  };
}

-- one end more
set_ends : (f g : Line → Option Line) (k : ℕ) (here to : Line) (before after : EndList) → IsLineBelow k here
    → ((l : Line) → g l ≡ (if same_line here l then Some to else f l)) → AreEndsOf f k before
    → after.elements ≡ before.elements
    → after.ends ≡ slice_set before.ends (4 * here.element + here.line) (Some to) → AreEndsOf g k after
set_ends f g k here to before after below says are same is = record {
  elements = same ∙ are.elements;
  ends = record {
    count = ap length is ∙ set_length before.ends (4 * here.element + here.line) (Some to) ∙ are.ends.count;
    each = each;
  };
}
  where
    within : 4 * here.element + here.line < length before.ends
    within = let e = below.element in let l = below.line in let count = are.ends.count in omega arith

    each : (i : ℕ) → i < 4 * k → slice_get after.ends i ≡ Some (g (nth_line i))
    each i low = ap (λ xs. slice_get xs i) is ∙ elim (line_tells here (nth_line i)) [
      | inl at ↦
          let number : i ≡ 4 * here.element + here.line = (let e = ap (λ (l : Line). l.element) at.1 in let l = ap
          (λ (l : Line). l.line) at.1 in omega arith) in
          let written = slice_get-set_same before.ends (4 * here.element + here.line) (Some to) within in
          let read : slice_get (slice_set before.ends (4 * here.element + here.line) (Some to)) i ≡ Some (Some to) =
          ap (λ n. slice_get (slice_set before.ends (4 * here.element + here.line) (Some to)) n) number ∙ written in
          let told : g (nth_line i) ≡ Some to = says (nth_line i) ∙ rw at.0 refl in
          read ∙ ap Some (sym told)
      | inr off ↦
          let read = slice_get-set_other before.ends (4 * here.element + here.line) i (Some to)
          (λ number. absurd (off.1 (sym (line_by_number here i below.line number)))) in
          let told : g (nth_line i) ≡ f (nth_line i) = says (nth_line i) ∙ rw off.0 refl in
          read ∙ are.ends.each i low ∙ ap Some (sym told)
    ]

-- ---- one line after another

-- what f tells stands in the first n places, and in all others that there is no wire
pub record AreFirst (f : Line → Option Line) (n k : ℕ) (e : EndList) : Type 0 where
  pub elements : e.elements ≡ k
  pub count : length e.ends ≡ 4 * k
  pub before : (i : ℕ) → i < n → i < 4 * k → slice_get e.ends i ≡ Some (f (nth_line i))
  pub behind : (i : ℕ) → n ≤ i → i < 4 * k → slice_get e.ends i ≡ Some None

pub first_none : (f : Line → Option Line) (k : ℕ) (e : EndList) → e.elements ≡ k → e.ends ≡ replicate (4 * k) None
    → AreFirst f 0 k e
first_none f k e elements is = record {
  elements = elements;
  count = ap length is ∙ length-replicate {A = Option Line} (4 * k) None;
  before = λ i low. absurd (omega arith);
  behind = λ i past low. ap (λ xs. slice_get xs i) is ∙ all_loose (4 * k) i low;
}

last : (i n : ℕ) → i < n + 1 → (i < n) ⊎ (i ≡ n)
last i n low = grind (arith, nat_tests)

pub first_loose : (f : Line → Option Line) (n k : ℕ) (l : Line) (e : EndList) → AreFirst f n k e → l ≡ nth_line n
    → None ≡ f l → AreFirst f (n + 1) k e
first_loose f n k l e are is none = record {
  elements = are.elements;
  count = are.count;
  before = λ i more low. elim (last i n more) [
    | inl below ↦ are.before i below low
    | inr here ↦ are.behind i (omega arith) low ∙ ap Some (none ∙ ap f (is ∙ ap nth_line (sym here)))
  ];
  behind = λ i past low. are.behind i (omega arith) low;
}

pub first_more : (f : Line → Option Line) (n k : ℕ) (l to : Line) (e after : EndList) → AreFirst f n k e → n < 4 * k
    → l ≡ nth_line n → Some to ≡ f l
    → after.elements ≡ e.elements → after.ends ≡ slice_set e.ends (4 * l.element + l.line) (Some to)
    → AreFirst f (n + 1) k after
first_more f n k l to e after are within is leads same written = record {
  elements = same ∙ are.elements;
  count = ap length written ∙ set_length e.ends (4 * l.element + l.line) (Some to) ∙ are.count;
  before = λ i more low. ap (λ xs. slice_get xs i) (written ∙ ap (λ p. slice_set e.ends p (Some to)) place)
      ∙ elim (last i n more) [
        | inl below ↦ slice_get-set_other e.ends n i (Some to) (λ at. absurd (omega arith)) ∙ are.before i below low
        | inr here ↦ ap (slice_get (slice_set e.ends n (Some to))) here ∙ slice_get-set_same e.ends n (Some to) there
            ∙ ap Some (leads ∙ ap f (is ∙ ap nth_line (sym here)))
      ];
  behind = λ i past low. ap (λ xs. slice_get xs i) (written ∙ ap (λ p. slice_set e.ends p (Some to)) place)
      ∙ slice_get-set_other e.ends n i (Some to) (λ at. absurd (omega arith)) ∙ are.behind i (omega arith) low;
}
  where
    place : 4 * l.element + l.line ≡ n
    place = let element = ap (λ (x : Line). x.element) is in let line = ap (λ (x : Line). x.line) is in omega arith

    there : n < length e.ends
    there = let count = are.count in omega arith

pub first_all : (f : Line → Option Line) (n k : ℕ) (e : EndList) → AreFirst f n k e → 4 * k ≤ n → AreEndsOf f k e
first_all f n k e are all = record {
  elements = are.elements;
  ends = record { count = are.count; each = λ i low. are.before i (omega arith) low };
}

-- both lines of a wire of the list are there
pub record IsFit (n : ℕ) (w : Wire) : Type 0 where
  pub from : IsLineBelow n w.from
  pub to : IsLineBelow n w.to

pub fits_at : (n : ℕ) (ws : List Wire) (i : ℕ) (w : Wire) → AreFitting n ws → slice_get ws i ≡ Some w → IsFit n w
fits_at n ws i w fitting has =
    let fits = fitting.fits i w has in
    record { from = record { element = fits.0; line = fits.1 }; to = record { element = fits.2; line = fits.3 } }

pub ends_below : (n k : ℕ) (ws : List Wire) (i : ℕ) (w : Wire) → k ≡ n → AreFitting n ws → i < length ws
    → IsLineBelow k (get_or ws i w).to
ends_below n k ws i w same fitting within =
    subst (λ m. IsLineBelow m (get_or ws i w).to) (sym same) (fits_at n ws i (get_or ws i w) fitting
    (slice_get-get_or ws i w within)).to

-- ---- where the first wires of a list lead

pub ends_none : (count : ℕ) (ws : List Wire) (e : EndList) → e.elements ≡ count → e.ends ≡ replicate (4 * count) None
    → AreEndsOf (ahead (take 0 ws)) count e
ends_none count ws e elements ends = loose_ends (ahead (take 0 ws)) count e (λ l. refl) elements ends

pub ends_more : (count : ℕ) (ws : List Wire) (n : ℕ) (w : Wire) (over : Line) (before after : EndList) → AreApart ws
    → AreFitting count ws
    → n < length ws → slice_get ws n ≡ Some w → over ≡ opposite w.from → AreEndsOf (ahead (take n ws)) count before
    → after.elements ≡ before.elements
    → after.ends ≡ slice_set before.ends (4 * over.element + over.line) (Some w.to)
    → AreEndsOf (ahead (take (n + 1) ws)) count after
ends_more count ws n w over before after apart fitting within has is so_far elements ends =
    let fit = fits_at count ws n w fitting has in
    let is_w : get_or ws n w ≡ w = let read = slice_get-get_or ws n w within in cc in
    let more : take (n + 1) ws ≡ take n ws ++ w ∷ [] = take_more ws n w within ∙ ap (λ x. take n ws ++ x ∷ []) is_w in
    set_ends (ahead (take n ws)) (ahead (take (n + 1) ws)) count (opposite w.from) w.to before after
    (opposite_below count w.from fit.from)
    (λ l. ap (λ xs. target xs (opposite l)) more ∙ target-push (take n ws) w (opposite l)
    (earlier_target ws n w apart has)
    ∙ ap (λ b. if b then Some w.to else target (take n ws) (opposite l)) (test_across w.from l)) so_far elements
    (ends ∙ ap (λ (l : Line). slice_set before.ends (4 * l.element + l.line) (Some w.to)) is)

-- ---- the net of a list of wires

-- where a wire of a list stands
record IsFound (ws : List Wire) (from to : Line) : Type 0 where
  place : ℕ
  wire : Wire
  has : slice_get ws place ≡ Some wire
  leaves : wire.from ≡ from
  ends : wire.to ≡ to

find : (ws : List Wire) (from to : Line) → target ws from ≡ Some to → IsFound ws from to
find [] from to is = absurd (cc)
find (x ∷ ws) from to is = elim (line_tells x.from from) [
  | inl at ↦ record {
    place = 0;
    wire = x;
    has = refl;
    leaves = at.1;
    ends = (let h : Some x.to ≡ Some to = rw at.0 at is in cc);
  }
  | inr off ↦ (let rest = find ws from to (rw off.0 at is) in
      record { place = suc rest.place; wire = rest.wire; has = rest.has; leaves = rest.leaves; ends = rest.ends })
]

-- so many rotary elements with the wires of a list
abbrev pub listed : ℕ → List Wire → Parts Rotary
listed n ws = record { elements = rotaries n; wires = ws }

long : (n : ℕ) → length (rotaries n) ≡ n
long n = length-replicate {A = Rotary} n (record {})

listed_fit : (n : ℕ) (ws : List Wire) (from to : Line) → AreFitting n ws → target ws from ≡ Some to
    → IsLineBelow n from × IsLineBelow n to
listed_fit n ws from to fitting is =
    let found = find ws from to is in
    let fit = fits_at n ws found.place found.wire fitting found.has in
    (subst (IsLineBelow n) found.leaves fit.from, subst (IsLineBelow n) found.ends fit.to)

-- the list's own net is one of it
pub listed-is : (n : ℕ) (ws : List Wire) → IsNetOf (listed n ws) n ws
listed-is n ws = record { elements = long n; targets = λ from. refl }

-- the ends that lead as the list says
pub listed-AreTargets : (count : ℕ) (ws : List Wire) (e : EndList) → count < 2 ^ 32 → AreApart ws → AreFitting count ws
    → AreEndsOf (ahead ws) count e
    → AreTargets e
listed-AreTargets count ws e few apart fitting ends =
    targets_ahead e (ends-AreTargets ws count (targets_by e) few (ahead-AreTargets (target ws) count e ends)
    (apart-IsOneToOne ws apart)
    (λ from to is. (listed_fit count ws from to fitting is).1))

pub listed-IsNetOf : (count : ℕ) (ws : List Wire) (e : EndList) → AreFitting count ws → AreEndsOf (ahead ws) count e
    → IsNetOf (net_of (targets_by e)) count ws
listed-IsNetOf count ws e fitting ends = record {
  elements = long e.elements ∙ ends.elements;
  targets = λ from. target-wires (rows_of (targets_by e).ends) from
      ∙ ends_entry (target ws) count (targets_by e) (ahead-AreTargets (target ws) count e ends)
      (λ l to is. (listed_fit count ws l to fitting is).0) from;
}

pub ends-AreInOrder : (e : EndList) → AreInOrder (net_of e).wires
ends-AreInOrder e = rows_in_order 0 (rows_of e.ends)
