-- What lines say together: their wires and the rows that are left.
use Rattle.std.specs.Prelude.{◌≡◌, ◌≢◌, ℕ, ◌+◌, ◌-◌, ◌≤◌, List, [], ◌∷◌, ◌++◌, length, drop, Option, Some, None}
use Rattle.std.specs.Prelude.{slice_get, refl}
use Rattle.std.proofs.Common.{zero, suc, arith, sym, ap, subst, ◌∙◌, inl, inr}
use Rattle.std.proofs.lemmas.List.{append_assoc, append-nil}
use Rattle.std.proofs.lemmas.Option.{same_Some}
use Rattle.bn_circuits.specs.Circuits.{target}
use Rattle.bn_circuits.specs.declared.line.Line.{Line}
use Rattle.bn_circuits.specs.declared.line.Wire.{Wire}
use Rattle.bn_circuits.proofs.WireListLemmas.{line_tells}
use Rattle.bn_element.specs.Rotary.{east, west}
use Rattle.bn_circuits.specs.Circuits.{line_at}
use Rattle.bn_netlist_laws.specs.Faults.{wires_from}
use Rattle.bn_netlist_laws.proofs.WireLemmas.{Each}
use Rattle.bn_netlist_laws.specs.Sentences.{Sentence}
use Rattle.bn_netlist_laws.specs.Faults.{rows_after, rows_left, line_wires, wires_after, row_targets}

pub wires_after-append : (i : ℕ) (xs ys : List Sentence) → wires_after i (xs ++ ys)
    ≡ wires_after i xs ++ wires_after (i + length xs) ys
wires_after-append i [] ys = let same : i ≡ i + 0 = omega arith in ap (λ (n : ℕ). wires_after n ys) same
wires_after-append i (x ∷ xs) ys =
    let rest = wires_after-append (suc i) xs ys in
    let same : suc i + length xs ≡ i + length (x ∷ xs) = omega arith in
    ap (λ (ws : List Wire). line_wires i x ++ ws) (rest ∙ ap (λ (n : ℕ). wires_after (suc i) xs ++ wires_after n ys)
    same)
    ∙ sym (append_assoc (line_wires i x) (wires_after (suc i) xs) (wires_after (i + length (x ∷ xs)) ys))

pub wires_after-more : (i : ℕ) (xs : List Sentence) (x : Sentence)
    → wires_after i (xs ++ x ∷ []) ≡ wires_after i xs ++ line_wires (i + length xs) x
wires_after-more i xs x = wires_after-append i xs (x ∷ []) ∙ ap (λ (ws : List Wire). wires_after i xs ++ ws)
    (append-nil (line_wires (i + length xs) x))

pub rows_left-append : (m : ℕ) (xs ys : List Sentence) → rows_left m (xs ++ ys) ≡ rows_left (rows_left m xs) ys
rows_left-append m [] ys = refl
rows_left-append m (x ∷ xs) ys = rows_left-append (rows_after m x) xs ys

pub length_more : (xs : List Sentence) (x : Sentence) → length (xs ++ x ∷ []) ≡ suc (length xs)
length_more [] x = refl
length_more (y ∷ xs) x = ap suc (length_more xs x)

-- ---- a line that some wire of a list leaves

abbrev pub HasWire : List Wire → Line → Type 0
HasWire ws from = target ws from ≢ None

some_none : (l : Line) → ◌≡◌ {A = Option Line} (Some l) None → ⊥
some_none l e = cc

pub has_left : (xs ys : List Wire) (from : Line) → HasWire xs from → HasWire (xs ++ ys) from
has_left [] ys from h = absurd (h refl)
has_left (x ∷ xs) ys from h =
    elim (line_tells x.from from) [
      | inl same ↦ (λ none. some_none x.to (rw same.0 at none))
      | inr other ↦ (λ none. has_left xs ys from (λ e. h (rw other.0 e)) (rw other.0 at none))
    ]

pub has_right : (xs ys : List Wire) (from : Line) → HasWire ys from → HasWire (xs ++ ys) from
has_right [] ys from h = h
has_right (x ∷ xs) ys from h =
    elim (line_tells x.from from) [
      | inl same ↦ (λ none. some_none x.to (rw same.0 at none))
      | inr other ↦ (λ none. has_right xs ys from h (rw other.0 at none))
    ]

-- ---- wires that are all among others

abbrev pub AreOf : List Wire → List Wire → Type 0
AreOf all ws = Each (λ w. target all w.from ≡ Some w.to) ws

pub of_target : (all ws : List Wire) → AreOf all ws → (from to : Line) → target ws from ≡ Some to
    → target all from ≡ Some to
of_target all [] are from to h = absurd (cc)
of_target all (w ∷ ws) are from to h =
    elim (line_tells w.from from) [
      | inl same ↦
          (let found : ◌≡◌ {A = Option Line} (Some w.to) (Some to) = rw same.0 at h in
          subst (λ (l : Line). target all l ≡ Some to) same.1 (are.0 ∙ found))
      | inr other ↦ of_target all ws are.1 from to (rw other.0 at h)
    ]

-- where each of the others has a wire among them, both lead alike
pub exact : (all ws : List Wire) → AreOf all ws → (from : Line)
    → ((to : Line) → target all from ≡ Some to → HasWire ws from) → target ws from ≡ target all from
exact all ws are from has = by_both (target ws from) refl (target all from) refl
  where
    by_both : (o : Option Line) → target ws from ≡ o → (p : Option Line) → target all from ≡ p
        → target ws from ≡ target all from
    by_both (Some to) is p other = is ∙ sym (of_target all ws are from to is)
    by_both None is None other = is ∙ sym other
    by_both None is (Some to) other = absurd (has to other is)

-- ---- the wires of some outputs of an element

-- an output that leads somewhere leads there among these
abbrev pub AreLeading : List Wire → ℕ → ℕ → List (Option Line) → Type 0
AreLeading all e o [] = Unit {0}
AreLeading all e o (None ∷ xs) = AreLeading all e (suc o) xs
AreLeading all e o (Some to ∷ xs) = (target all (line_at e o) ≡ Some to) × AreLeading all e (suc o) xs

pub lead : (all : List Wire) (e o : ℕ) (x : Option Line) (xs : List (Option Line)) → target all (line_at e o) ≡ x
    → AreLeading all e (suc o) xs → AreLeading all e o (x ∷ xs)
lead all e o None xs is rest = rest
lead all e o (Some to) xs is rest = (is, rest)

pub row_leading : (all : List Wire) (e : ℕ) → AreLeading all e east
    (row_targets (target all (line_at e east)) (target all (line_at e west)))
row_leading all e =
    lead all e east (target all (line_at e east)) (None ∷ target all (line_at e west) ∷ []) refl
    (lead all e west (target all (line_at e west)) [] refl tt)

pub from_are : (all : List Wire) (e o : ℕ) (xs : List (Option Line)) → AreLeading all e o xs
    → AreOf all (wires_from e o xs)
from_are all e o [] are = tt
from_are all e o (None ∷ xs) are = from_are all e (suc o) xs are
from_are all e o (Some to ∷ xs) are = (are.0, from_are all e (suc o) xs are.1)

pub from_has : (e o : ℕ) (xs : List (Option Line)) (i l : ℕ) (to : Line) → slice_get xs i ≡ Some (Some to) → l ≡ o + i
    → HasWire (wires_from e o xs) (line_at e l)
from_has e o [] i l to has place = absurd (cc)
from_has e o (None ∷ xs) zero l to has place = absurd (apart to (same_Some {A = Option Line} None (Some to) has))
  where
    apart : (to : Line) → ◌≡◌ {A = Option Line} None (Some to) → ⊥
    apart to e = cc
from_has e o (None ∷ xs) (suc i) l to has place = from_has e (suc o) xs i l to has (omega arith)
from_has e o (Some t ∷ xs) zero l to has place =
    elim (line_tells (line_at e o) (line_at e l)) [
      | inl same ↦ (λ none. some_none t (rw same.0 at none))
      | inr other ↦ absurd (other.1 (let same : o ≡ l = omega arith in ap (λ (n : ℕ). line_at e n) same))
    ]
from_has e o (Some t ∷ xs) (suc i) l to has place =
    let w : Wire = record { from = line_at e o; to = t } in
    has_right (w ∷ []) (wires_from e (suc o) xs) (line_at e l) (from_has e (suc o) xs i l to has (omega arith))

-- ---- lists by their entries

pub each_of : (P : Wire → Type 0) (ws : List Wire) → ((n : ℕ) (w : Wire) → slice_get ws n ≡ Some w → P w) → Each P ws
each_of P [] all = tt
each_of P (w ∷ ws) all = (all 0 w refl, each_of P ws (λ n. all (suc n)))

pub drop_more : (qs : List ℕ) (e q : ℕ) → slice_get qs e ≡ Some q → drop e qs ≡ q ∷ drop (suc e) qs
drop_more [] e q has = absurd (cc)
drop_more (p ∷ qs) zero q has = let same = same_Some p q has in ap (λ (n : ℕ). n ∷ qs) same
drop_more (p ∷ qs) (suc e) q has = drop_more qs e q has

pub drop_all : (qs : List ℕ) (e : ℕ) → length qs ≤ e → drop e qs ≡ []
drop_all [] zero h = refl
drop_all [] (suc e) h = refl
drop_all (p ∷ qs) zero h = absurd (omega arith)
drop_all (p ∷ qs) (suc e) h = drop_all qs e (omega arith)
