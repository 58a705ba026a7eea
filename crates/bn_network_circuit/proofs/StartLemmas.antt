-- The circuit of a network at its start: each part rests in its module's state.
use Rattle.std.specs.Prelude.{◌≡◌, ℕ, ◌+◌, ◌*◌, ◌<◌, ◌≤◌, List, [], ◌∷◌, ◌++◌, length, map, Option, Some, None}
use Rattle.std.specs.Prelude.{slice_get}
use Rattle.std.specs.Prelude.{refl}
use Rattle.std.proofs.Common.{zero, suc, arith, sym, ap, subst, ◌∙◌}
use Rattle.std.proofs.lemmas.List.{length-replicate, length-set, length-append}
use Rattle.bn_circuits.specs.declared.line.Line.{Line}
use Rattle.bn_circuits.specs.declared.place.Place.{Place}
use Rattle.bn_circuits.specs.declared.place.Place.TheVariants.{Enter}
use Rattle.bn_element.specs.Rotary.{horizontal, vertical}
use Rattle.bn_realise.specs.Banks.{column_at, bottom_at}
use Rattle.bn_realise.proofs.StartLemmas.{resting-IsResting}
use Rattle.bn_realise.proofs.BankCrossingLemmas.{later_column}
use Rattle.bn_mixed_networks.specs.Parts.{Part, Bank, Single, part_table, part_size, part_bars, bars_of, base, size}
use Rattle.bn_mixed_networks.specs.Parts.{IsPartResting, input_place}
use Rattle.bn_network_circuit.specs.Realised.{parts_of, part_of, states_of, state_of, input_by}
use Rattle.bn_network_circuit.specs.Laws.{StartsAreRepresented}

get_left : {X : Type 0} (xs ys : List X) (i : ℕ) → i < length xs → slice_get (xs ++ ys) i ≡ slice_get xs i
get_left [] ys i low = absurd (omega arith)
get_left (x ∷ xs) ys zero low = refl
get_left (x ∷ xs) ys (suc i) low = get_left xs ys i (omega arith)

get_right : {X : Type 0} (xs ys : List X) (i e : ℕ) → e ≡ length xs + i → slice_get (xs ++ ys) e ≡ slice_get ys i
get_right [] ys i e same = let is : e ≡ i = omega arith in ap (slice_get ys) is
get_right (x ∷ xs) ys i zero same = absurd (omega arith)
get_right (x ∷ xs) ys i (suc e) same = get_right xs ys i e (omega arith)

-- a part has a bar for each of its elements
bars-count : (p : Part) (q : ℕ) → length (part_bars p q) ≡ part_size p
bars-count (Bank t) q = length-set _ (bottom_at 0 t.inputs q) horizontal
    ∙ length-replicate (t.states * (t.inputs + 1)) vertical
bars-count Single q = refl

-- a part at rest rests wherever it stands
rests_at : (p : Part) (old new : List ℕ) (a b q : ℕ)
    → ((x : ℕ) → x < part_size p → slice_get new (b + x) ≡ slice_get old (a + x)) → IsPartResting p old a q
    → IsPartResting p new b q
rests_at (Bank t) old new a b q same rests = record {
  columns = λ j there. record {
    rows = λ r row. moved j r there (omega arith) ∙ (rests.columns j there).rows r row;
    bottom = moved j t.inputs there (omega arith) ∙ (rests.columns j there).bottom;
  };
}
  where
    moved : (j r : ℕ) → j < t.states → r ≤ t.inputs
        → slice_get new (column_at b t.inputs j + r) ≡ slice_get old (column_at a t.inputs j + r)
    moved j r there row =
        let last = later_column 0 t.inputs j t.states there in
        let h = same (j * (t.inputs + 1) + r) (omega arith) in
        let left : column_at b t.inputs j + r ≡ b + (j * (t.inputs + 1) + r) = omega arith in
        let right : a + (j * (t.inputs + 1) + r) ≡ column_at a t.inputs j + r = omega arith in
        ap (slice_get new) left ∙ h ∙ ap (slice_get old) right
rests_at Single old new a b q same rests =
    let h = same 0 (omega arith) in
    let left : b ≡ b + 0 = omega arith in
    let right : a + 0 ≡ a = omega arith in
    ap (slice_get new) left ∙ h ∙ ap (slice_get old) right ∙ rests

part-rests : (p : Part) (q : ℕ) → q < (part_table p).states → IsPartResting p (part_bars p q) 0 q
part-rests (Bank t) q low = resting-IsResting t.states t.inputs q low
part-rests Single q low = refl

all-count : (ps : List Part) (qs : List ℕ) → length qs ≡ length ps → length (bars_of ps qs) ≡ size ps
all-count [] qs h = refl
all-count (p ∷ ps) [] h = absurd (omega arith)
all-count (p ∷ ps) (q ∷ qs) h =
    let rest = all-count ps qs (omega arith) in
    let here = bars-count p q in
    let both = length-append (part_bars p q) (bars_of ps qs) in
    omega arith

all-rest : (ps : List Part) (qs : List ℕ) (m : ℕ) (p : Part) (q : ℕ) → length qs ≡ length ps → slice_get ps m ≡ Some p
    → slice_get qs m ≡ Some q → q < (part_table p).states → IsPartResting p (bars_of ps qs) (base ps m) q
all-rest [] qs m p q h has at_q low = absurd (cc)
all-rest (u ∷ ps) [] m p q h has at_q low = absurd (cc)
all-rest (u ∷ ps) (r ∷ qs) zero p q h has at_q low =
    let parts : u ≡ p = cc in
    let states : r ≡ q = cc in
    let here : IsPartResting p (part_bars u r) 0 q =
    subst (λ v. IsPartResting p (part_bars v r) 0 q) (sym parts)
    (subst (λ x. IsPartResting p (part_bars p x) 0 q) (sym states) (part-rests p q low)) in
    let sizes : part_size u ≡ part_size p = ap part_size parts in
    let count = bars-count u r in
    rests_at p (part_bars u r) (bars_of (u ∷ ps) (r ∷ qs)) 0 0 q
    (λ x within. get_left (part_bars u r) (bars_of ps qs) (0 + x) (omega arith)) here
all-rest (u ∷ ps) (r ∷ qs) (suc m) p q h has at_q low =
    let rest = all-rest ps qs m p q (omega arith) has at_q low in
    let count = bars-count u r in
    rests_at p (bars_of ps qs) (bars_of (u ∷ ps) (r ∷ qs)) (base ps m) (part_size u + base ps m) q
    (λ x within. get_right (part_bars u r) (bars_of ps qs) (base ps m + x) (part_size u + base ps m + x)
    (omega arith)) rest

length-mapped : {X Y : Type 0} (f : X → Y) (xs : List X) → length (map f xs) ≡ length xs
length-mapped f [] = refl
length-mapped f (x ∷ xs) = ap suc (length-mapped f xs)

mapped_from : {X Y : Type 0} (f : X → Y) (xs : List X) (i : ℕ) (y : Y) → slice_get (map f xs) i ≡ Some y
    → (x : X) × (slice_get xs i ≡ Some x) × (f x ≡ y)
mapped_from f [] i y h = absurd (cc)
mapped_from f (x ∷ xs) zero y h = (x, refl, let same : f x ≡ y = cc in same)
mapped_from f (x ∷ xs) (suc i) y h = mapped_from f xs i y h

placed : (ps : List Part) (l : Line) (o : Option Part)
    → ◌≡◌ {A = Place} (Enter (input_by ps l o).element (input_by ps l o).line) (input_place ps l.element o l.line)
placed ps l None = refl
placed ps l (Some p) = refl

same_at : {X : Type 0} (o : Option X) (x y : X) → o ≡ Some x → o ≡ Some y → x ≡ y
same_at o x y first second = cc

pub starts : StartsAreRepresented
starts ms d is =
    let ps : List Part = parts_of ms d.modules in
    let qs : List ℕ = states_of d.modules in
    let count : length qs ≡ length ps = length-mapped state_of d.modules ∙ sym (length-mapped (part_of ms) d.modules) in
    record {
      count = count;
      bars = all-count ps qs count;
      rests = λ m p q has at_q.
          let x = mapped_from (part_of ms) d.modules m p has in
          let y = mapped_from state_of d.modules m q at_q in
          let same : x.0 ≡ y.0 = same_at _ x.0 y.0 x.1 y.1 in
          let state : state_of x.0 ≡ q = ap state_of same ∙ y.2 in
          let low = is.states m x.0 x.1 in
          let low' : q < (part_table p).states =
          subst (λ n. n < (part_table p).states) state (subst (λ v. state_of x.0 < (part_table v).states) x.2 low) in
          (low', all-rest ps qs m p q count has at_q low');
      admissible = is.place;
      place = placed ps d.place (slice_get ps d.place.element);
    }
