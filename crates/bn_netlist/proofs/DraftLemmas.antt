-- The wires of a column as they are tested and added.
use Rattle.std.specs.Prelude.{◌≡◌, ◌≢◌, ℕ, ◌+◌, ◌*◌, ◌<◌, ◌≤◌, ◌||◌, nat_lt, Bool, true, false, List, [], ◌∷◌, ◌++◌}
use Rattle.std.specs.Prelude.{length, take, Option, Some, None, is_some, slice_get, slice_set, refl}
use Rattle.std.proofs.Common.{zero, suc, arith, sym, ap, subst, ◌∙◌, inl, inr, ◌⊎◌, get_or}
use Rattle.std.proofs.lemmas.Bool.{cases_Bool}
use Rattle.std.proofs.lemmas.Bool.Decides.{nat_tests}
use Rattle.std.proofs.lemmas.List.{append_assoc, append-nil, length-set, take_more}
use Rattle.std.proofs.lemmas.Option.{same_Some, slice_get-get_or}
use Rattle.bn_circuits.specs.Circuits.{same_line, source, target}
use Rattle.bn_circuits.proofs.StepLemmas.{same_lines, slice_get-set_same, slice_get-set_other}
use Rattle.bn_circuits.specs.declared.line.Line.{Line}
use Rattle.bn_circuits.specs.declared.line.Wire.{Wire}
use Rattle.bn_circuits.specs.declared.place.Place.{Place}
use Rattle.bn_circuits.specs.declared.place.Place.TheVariants.{Enter}
use Rattle.bn_circuits.proofs.WireListLemmas.{line_tells}
use Rattle.bn_circuits.specs.Wirings.{AreApart, AreFitting}
use Rattle.bn_packed.specs.Drafts.{AreDrawn}
use Rattle.bn_packed.specs.Ends.{EndList}
use Rattle.bn_column.specs.Columns.{IsInner, down, up, under, over, top}
use Rattle.bn_netlist.specs.Drafting.{IsFed}
use Rattle.bn_netlist_laws.specs.Faults.{is_left_by}
use Rattle.bn_netlist_laws.proofs.WireLemmas.{other_line, Each}
use Rattle.bn_netlist_laws.specs.Columns.{inner_wires}
use Rattle.bn_netlist_laws.specs.Faults.{no_element, end_wired, left_wired, start_fed, second_source, some_wire}
use Rattle.bn_netlist_laws.specs.declared.header.Header.{Header}
use Rattle.bn_netlist_laws.proofs.SaidLemmas.{inner_each}
use Rattle.bn_netlist.specs.Drafting.{AreKept, column_fault, IsInnerOf, ConnectsColumn, HasDrawn}

-- ---- tests over a list

some_at : (test : Wire → Bool) (ws : List Wire) (n : ℕ) (w : Wire) → slice_get ws n ≡ Some w → test w ≡ true
    → true ≡ some_wire test ws
some_at test [] n w has is = absurd (cc)
some_at test (v ∷ ws) zero w has is =
    let same : v ≡ w = same_Some v w has in
    let here : test v ≡ true = ap test same ∙ is in
    rw here refl
some_at test (v ∷ ws) (suc n) w has is =
    elim (cases_Bool (test v)) [
      | inl here ↦ rw here refl
      | inr other ↦ rw other (some_at test ws n w has is)
    ]

some_wire-append : (test : Wire → Bool) (xs ys : List Wire) → some_wire test (xs ++ ys)
    ≡ (some_wire test xs || some_wire test ys)
some_wire-append test [] ys = refl
some_wire-append test (x ∷ xs) ys = ap (λ (b : Bool). test x || b) (some_wire-append test xs ys)
    ∙ sym (or_assoc (test x) (some_wire test xs) (some_wire test ys))
  where
    or_assoc : (a b c : Bool) → ((a || b) || c) ≡ (a || (b || c))
    or_assoc true b c = refl
    or_assoc false b c = refl

none_more : (test : Wire → Bool) (ws : List Wire) (n : ℕ) (d : Wire) → n < length ws
    → some_wire test (take n ws) ≡ false → test (get_or ws n d) ≡ false → some_wire test (take (n + 1) ws) ≡ false
none_more test ws n d below before here =
    let last : some_wire test (get_or ws n d ∷ []) ≡ false = rw here refl in
    ap (some_wire test) (take_more ws n d below) ∙ some_wire-append test (take n ws) (get_or ws n d ∷ [])
    ∙ (λ i. before i || last i)

mark_of : (count : ℕ) (all : List Wire) (fed : List Bool) (w : Wire) (b : Bool) → IsFed count all fed
    → (w.to.element < count) × (w.to.line < 4) → slice_get fed (4 * w.to.element + w.to.line) ≡ Some b
    → is_some (source all w.to) ≡ b
mark_of count all fed w b is inside has = same_Some (is_some (source all w.to)) b
    (sym (is.marks w.to inside.0 inside.1) ∙ has)

pub fed_found : (count : ℕ) (all ws : List Wire) (fed : List Bool) (n : ℕ) (d : Wire) → IsFed count all fed
    → ((m : ℕ) (w : Wire) → slice_get ws m ≡ Some w → (w.to.element < count) × (w.to.line < 4)) → n < length ws
    → slice_get fed (4 * (get_or ws n d).to.element + (get_or ws n d).to.line) ≡ Some true
    → true ≡ some_wire (λ w. is_some (source all w.to)) ws
fed_found count all ws fed n d is inside below has =
    let at_n = slice_get-get_or ws n d below in
    some_at (λ w. is_some (source all w.to)) ws n (get_or ws n d) at_n
    (mark_of count all fed (get_or ws n d) true is (inside n (get_or ws n d) at_n) has)

pub fed_none : (count : ℕ) (all ws : List Wire) (fed : List Bool) (n : ℕ) (d : Wire) → IsFed count all fed
    → ((m : ℕ) (w : Wire) → slice_get ws m ≡ Some w → (w.to.element < count) × (w.to.line < 4)) → n < length ws
    → some_wire (λ w. is_some (source all w.to)) (take n ws) ≡ false
    → slice_get fed (4 * (get_or ws n d).to.element + (get_or ws n d).to.line) ≡ Some false
    → some_wire (λ w. is_some (source all w.to)) (take (n + 1) ws) ≡ false
fed_none count all ws fed n d is inside below before has =
    let at_n = slice_get-get_or ws n d below in
    none_more (λ w. is_some (source all w.to)) ws n d below before
    (mark_of count all fed (get_or ws n d) false is (inside n (get_or ws n d) at_n) has)

-- a signal that hasn't left has left by no wire's line
pub none_left : (place : Place) (e l : ℕ) (ws : List Wire) → place ≡ Enter e l
    → false ≡ some_wire (λ w. is_left_by place w.from) ws
none_left place e l ws is = subst (λ (p : Place). false ≡ some_wire (λ w. is_left_by p w.from) ws) (sym is) (none ws)
  where
    none : (vs : List Wire) → false ≡ some_wire (λ w. is_left_by (Enter e l) w.from) vs
    none [] = refl
    none (v ∷ vs) = none vs

-- ---- the first fault of a column

module _ (h : Header) (ws : List Wire) (e k : ℕ) (inner : List Wire) (is : inner ≡ inner_wires e k) where
  pub fault_target : h.count ≤ e + k → column_fault h ws e k ≡ Some no_element
  fault_target outside = let test : nat_lt (e + k) h.count ≡ false = grind (arith, nat_tests) in rw test refl

  inside : e + k < h.count → nat_lt (e + k) h.count ≡ true
  inside within = grind (arith, nat_tests)

  at_inner : (test : Wire → Bool) (b : Bool) → b ≡ some_wire test inner → some_wire test (inner_wires e k) ≡ b
  at_inner test b h = ap (some_wire test) (sym is) ∙ sym h

  pub fault_end : e + k < h.count → true ≡ some_wire (λ w. same_line h.end w.from) inner
      → column_fault h ws e k ≡ Some end_wired
  fault_end within end = rw (inside within, at_inner (λ w. same_line h.end w.from) true end) refl

  pub fault_left : e + k < h.count → false ≡ some_wire (λ w. same_line h.end w.from) inner
      → true ≡ some_wire (λ w. is_left_by h.place w.from) inner → column_fault h ws e k ≡ Some left_wired
  fault_left within end left = rw (
    inside within,
    at_inner (λ w. same_line h.end w.from) false end,
    at_inner (λ w. is_left_by h.place w.from) true left,
  ) refl

  pub fault_start : e + k < h.count → false ≡ some_wire (λ w. same_line h.end w.from) inner
      → false ≡ some_wire (λ w. is_left_by h.place w.from) inner → true ≡ some_wire (λ w. same_line h.start w.to) inner
      → column_fault h ws e k ≡ Some start_fed
  fault_start within end left start = rw (
    inside within,
    at_inner (λ w. same_line h.end w.from) false end,
    at_inner (λ w. is_left_by h.place w.from) false left,
    at_inner (λ w. same_line h.start w.to) true start,
  ) refl

  pub fault_source : e + k < h.count → false ≡ some_wire (λ w. same_line h.end w.from) inner
      → false ≡ some_wire (λ w. is_left_by h.place w.from) inner → false ≡ some_wire (λ w. same_line h.start w.to) inner
      → true ≡ some_wire (λ w. is_some (source ws w.to)) inner → column_fault h ws e k ≡ Some second_source
  fault_source within end left start fed = rw (
    inside within,
    at_inner (λ w. same_line h.end w.from) false end,
    at_inner (λ w. is_left_by h.place w.from) false left,
    at_inner (λ w. same_line h.start w.to) false start,
    at_inner (λ w. is_some (source ws w.to)) true fed,
  ) refl

  pub fault_none : e + k < h.count → false ≡ some_wire (λ w. same_line h.end w.from) inner
      → false ≡ some_wire (λ w. is_left_by h.place w.from) inner → false ≡ some_wire (λ w. same_line h.start w.to) inner
      → false ≡ some_wire (λ w. is_some (source ws w.to)) inner → column_fault h ws e k ≡ None
  fault_none within end left start fed = rw (
    inside within,
    at_inner (λ w. same_line h.end w.from) false end,
    at_inner (λ w. is_left_by h.place w.from) false left,
    at_inner (λ w. same_line h.start w.to) false start,
    at_inner (λ w. is_some (source ws w.to)) false fed,
  ) refl

-- ---- the ends of a column's wires

inner_to : (b k : ℕ) (from to : Line) → IsInner b k from to → (to.element ≤ b + k) × (to.line < 4)
inner_to b k from to (down r low leaves ends) = rw ends (omega arith, omega arith)
inner_to b k from to (up r low leaves ends) = rw ends (omega arith, omega arith)
inner_to b k from to (under leaves ends) = rw ends (omega arith, omega arith)
inner_to b k from to (over leaves ends) = rw ends (omega arith, omega arith)
inner_to b k from to (top leaves ends) = rw ends (omega arith, omega arith)

each_at : (P : Wire → Type 0) (ws : List Wire) (n : ℕ) (w : Wire) → Each P ws → slice_get ws n ≡ Some w → P w
each_at P [] n w each has = absurd (cc)
each_at P (v ∷ ws) zero w each has = subst P (same_Some v w has) each.0
each_at P (v ∷ ws) (suc n) w each has = each_at P ws n w each.1 has

pub inner_there : (count e k : ℕ) (inner : List Wire) → 0 < k → e + k < count → inner ≡ inner_wires e k
    → (n : ℕ) (w : Wire) → slice_get inner n ≡ Some w → (w.to.element < count) × (w.to.line < 4)
inner_there count e k inner some within is n w has =
    let at_inner : slice_get (inner_wires e k) n ≡ Some w = ap (λ (ws : List Wire). slice_get ws n) (sym is) ∙ has in
    let to = inner_to e k w.from w.to (each_at (λ v. IsInner e k v.from v.to) (inner_wires e k) n w
    (inner_each e k some) at_inner) in
    let low : w.to.element ≤ e + k = to.0 in
    (omega arith, to.1)

-- ---- adding the wires

source-same : (ws : List Wire) (w : Wire) → is_some (source (ws ++ w ∷ []) w.to) ≡ true
source-same [] w = elim (line_tells w.to w.to) [ inl same ↦ rw same.0 refl | inr other ↦ absurd (other.1 refl) ]
source-same (v ∷ ws) w = elim (line_tells v.to w.to) [
  | inl same ↦ rw same.0 refl
  | inr other ↦ rw other.0 (source-same ws w)
]

source-other : (ws : List Wire) (w : Wire) (l : Line) → w.to ≢ l → source (ws ++ w ∷ []) l ≡ source ws l
source-other [] w l apart = let e = other_line w.to l apart in rw e refl
source-other (v ∷ ws) w l apart = elim (line_tells v.to l) [
  | inl same ↦ rw same.0 refl
  | inr other ↦ rw other.0 (source-other ws w l apart)
]

pub fed_more : (n : ℕ) (ws : List Wire) (w : Wire) (fed : List Bool) → IsFed n ws fed → w.to.element < n → w.to.line < 4
    → IsFed n (ws ++ w ∷ []) (slice_set fed (4 * w.to.element + w.to.line) true)
fed_more n ws w fed is there low =
    record {
      size = length-set fed (4 * w.to.element + w.to.line) true ∙ is.size;
      marks = λ l l_there l_low. mark l l_there l_low (line_tells w.to l);
    }
  where
    mark : (l : Line) → l.element < n → l.line < 4 → ((same_line w.to l ≡ true) × (w.to ≡ l))
        ⊎ ((same_line w.to l ≡ false) × (w.to ≢ l)) → slice_get (slice_set fed (4 * w.to.element + w.to.line) true)
        (4 * l.element + l.line) ≡ Some (is_some (source (ws ++ w ∷ []) l))
    mark l l_there l_low (inl same) =
        let size : length fed ≡ 4 * n = is.size in
        let set = slice_get-set_same fed (4 * w.to.element + w.to.line) true (omega arith) in
        let fed_now = source-same ws w in
        let P : Line → Type 0 = λ m. slice_get (slice_set fed (4 * w.to.element + w.to.line) true)
        (4 * m.element + m.line) ≡ Some (is_some (source (ws ++ w ∷ []) m)) in
        subst P same.1 (set ∙ ap (λ (b : Bool). Some b) (sym fed_now))
    mark l l_there l_low (inr other) =
        let apart : (4 * l.element + l.line) ≢ (4 * w.to.element + w.to.line) =
        λ e. other.1 (same_lines w.to l (omega arith) (omega arith)) in
        slice_get-set_other fed (4 * w.to.element + w.to.line) (4 * l.element + l.line) true apart
        ∙ is.marks l l_there l_low ∙ ap (λ (o : Option Line). Some (is_some o)) (sym (source-other ws w l other.1))

-- ---- more wires in the draft

front_none : (xs ys : List Wire) (l : Line) → target (xs ++ ys) l ≡ None → target xs l ≡ None
front_none [] ys l none = refl
front_none (x ∷ xs) ys l none = elim (line_tells x.from l) [
  | inl same ↦ absurd (let found : ◌≡◌ {A = Option Line} (Some x.to) None = sym (rw same.0 refl) ∙ none in cc)
  | inr other ↦ rw other.0 (front_none xs ys l (sym (rw other.0 refl) ∙ none))
]

front_free : (xs ys : List Wire) (l : Line) → source (xs ++ ys) l ≡ None → source xs l ≡ None
front_free [] ys l none = refl
front_free (x ∷ xs) ys l none = elim (line_tells x.to l) [
  | inl same ↦ absurd (let found : ◌≡◌ {A = Option Line} (Some x.from) None = sym (rw same.0 refl) ∙ none in cc)
  | inr other ↦ rw other.0 (front_free xs ys l (sym (rw other.0 refl) ∙ none))
]

apart_front : (xs ys : List Wire) → AreApart (xs ++ ys) → AreApart xs
apart_front [] ys apart = tt
apart_front (x ∷ xs) ys apart = (
  front_none xs ys x.from apart.0,
  front_free xs ys x.to apart.1,
  apart_front xs ys apart.2,
)

pub drawn_more : (count : ℕ) (ws vs : List Wire) (old new : EndList) → HasDrawn count ws old
    → new.elements ≡ old.elements
    → ((us : List Wire) → AreDrawn old.elements us old → AreApart (us ++ vs) → AreDrawn old.elements (us ++ vs) new)
    → HasDrawn count (ws ++ vs) new
drawn_more count ws vs old new has elements grows =
    record {
      elements = elements ∙ has.elements;
      drawn_if = λ apart. subst (λ (n : ℕ). AreDrawn n (ws ++ vs) new) has.elements
          (grows ws (subst (λ (n : ℕ). AreDrawn n ws old) (sym has.elements)
          (has.drawn_if (apart_front ws vs apart))) apart);
    }

-- ---- marks of more wires

pub marked_more : (count n : ℕ) (ws inner : List Wire) (fed : List Bool) (w d : Wire) → AreFitting count inner
    → n < length inner → w ≡ get_or inner n d → IsFed count (ws ++ take n inner) fed
    → IsFed count (ws ++ take (n + 1) inner) (slice_set fed (4 * w.to.element + w.to.line) true)
marked_more count n ws inner fed w d fitting below at_n marked =
    let has : slice_get inner n ≡ Some w = slice_get-get_or inner n d below ∙ ap (λ (v : Wire). Some v) (sym at_n) in
    let fits = fitting.fits n w has in
    let lists : (ws ++ take n inner) ++ w ∷ [] ≡ ws ++ take (n + 1) inner =
    append_assoc ws (take n inner) (w ∷ [])
    ∙ ap (λ (v : Wire). ws ++ (take n inner ++ v ∷ [])) at_n
    ∙ ap (λ (vs : List Wire). ws ++ vs) (sym (take_more inner n d below))
    in
    subst (λ (vs : List Wire). IsFed count vs (slice_set fed (4 * w.to.element + w.to.line) true)) lists
    (fed_more count (ws ++ take n inner) w fed marked fits.2 fits.3)

pub mark_within : (count n : ℕ) (inner : List Wire) (fed : List Bool) (w d : Wire) → AreFitting count inner
    → n < length inner → w ≡ get_or inner n d → length fed ≡ 4 * count → 4 * w.to.element + w.to.line < length fed
mark_within count n inner fed w d fitting below at_n size =
    let has : slice_get inner n ≡ Some w = slice_get-get_or inner n d below ∙ ap (λ (v : Wire). Some v) (sym at_n) in
    let fits = fitting.fits n w has in
    let there : w.to.element < count = fits.2 in
    let low : w.to.line < 4 = fits.3 in
    omega arith

pub marked_none : (count : ℕ) (ws inner : List Wire) (fed : List Bool) → IsFed count ws fed
    → IsFed count (ws ++ take 0 inner) fed
marked_none count ws inner fed marked =
    let none : ws ++ take 0 inner ≡ ws = ap (λ (vs : List Wire). ws ++ vs) (take_none inner) ∙ append-nil ws in
    subst (λ (vs : List Wire). IsFed count vs fed) (sym none) marked
  where
    take_none : (vs : List Wire) → take 0 vs ≡ []
    take_none [] = refl
    take_none (v ∷ vs) = refl

pub marked_all : (count n : ℕ) (ws inner : List Wire) (fed : List Bool) → length inner ≤ n
    → IsFed count (ws ++ take n inner) fed → IsFed count (ws ++ inner) fed
marked_all count n ws inner fed past marked =
    subst (λ (vs : List Wire). IsFed count (ws ++ vs) fed) (take_past inner n past) marked
  where
    take_past : (vs : List Wire) (m : ℕ) → length vs ≤ m → take m vs ≡ vs
    take_past [] zero h = refl
    take_past [] (suc m) h = refl
    take_past (v ∷ vs) zero h = absurd (omega arith)
    take_past (v ∷ vs) (suc m) h = ap (λ (us : List Wire). v ∷ us) (take_past vs m (omega arith))

-- the wires of a column are between its elements
inner_from : (b k : ℕ) (from to : Line) → IsInner b k from to → (from.element ≤ b + k) × (from.line < 4)
inner_from b k from to (down r low leaves ends) = rw leaves (omega arith, omega arith)
inner_from b k from to (up r low leaves ends) = rw leaves (omega arith, omega arith)
inner_from b k from to (under leaves ends) = rw leaves (omega arith, omega arith)
inner_from b k from to (over leaves ends) = rw leaves (omega arith, omega arith)
inner_from b k from to (top leaves ends) = rw leaves (omega arith, omega arith)

pub inner_fitting : (h : Header) (e k : ℕ) (inner : List Wire) → 0 < k → IsInnerOf h e k inner
    → AreFitting h.count inner
inner_fitting h e k inner some is = record {
  fits = λ n w has.
      let at_inner : slice_get (inner_wires e k) n ≡ Some w =
      ap (λ (ws : List Wire). slice_get ws n) (sym is.are) ∙ has in
      let leads = each_at (λ v. IsInner e k v.from v.to) (inner_wires e k) n w (inner_each e k some) at_inner in
      let from = inner_from e k w.from w.to leads in
      let to = inner_to e k w.from w.to leads in
      let from_low : w.from.element ≤ e + k = from.0 in
      let to_low : w.to.element ≤ e + k = to.0 in
      let within : e + k < h.count = is.within in
      (omega arith, from.1, omega arith, to.1);
}

-- a column is added
pub column_connected : (h : Header) (e k : ℕ) (ws inner : List Wire) (drawn : EndList) (fed : List Bool)
    → IsInnerOf h e k inner → column_fault h ws e k ≡ None → HasDrawn h.count (ws ++ inner) drawn
    → IsFed h.count (ws ++ inner) fed → ConnectsColumn h e k ws drawn fed
column_connected h e k ws inner drawn fed is none has marked =
    record {
      faultless = none;
      kept = subst (λ (vs : List Wire). AreKept h.count (ws ++ vs) drawn fed) is.are
          (record { drawn_are = has; marked = marked });
    }
