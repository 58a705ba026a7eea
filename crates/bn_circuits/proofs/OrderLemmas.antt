-- Wires in order: those of rows are, and two such lists with the same targets are one list.
use Rattle.std.specs.Prelude.{◌≡◌, ℕ, ◌<◌, List, [], ◌∷◌, ◌++◌, Option, Some, None, slice_get, ◌⊎◌, refl}
use Rattle.std.proofs.Common.{zero, suc, arith, sym, ap, subst, ◌∙◌, inl, inr}
use Rattle.std.proofs.lemmas.Bool.Decides.{nat_tests}
use Rattle.bn_circuits.specs.Circuits.{target}
use Rattle.bn_circuits.proofs.StepLemmas.{same_lines}
use Rattle.bn_circuits.specs.declared.line.Line.{Line}
use Rattle.bn_circuits.specs.declared.line.Wire.{Wire}
use Rattle.bn_circuits.specs.Rows.{Rows, wires_of_row, wires_of}
use Rattle.bn_circuits.specs.Order.{ComesBefore, ComesFirst, AreInOrder, WiresStandOnce}
use Rattle.bn_circuits.specs.Parts.{Parts}
use Rattle.bn_circuits.proofs.WireListLemmas.{line_tells}

before_itself : (a : Line) → ComesBefore a a → ⊥
before_itself a (inl h) = omega arith
before_itself a (inr h) = let low = h.1 in omega arith

before_joins : (a b c : Line) → ComesBefore a b → ComesBefore b c → ComesBefore a c
before_joins a b c (inl h) (inl g) = inl (omega arith)
before_joins a b c (inl h) (inr g) = inl (let e = g.0 in omega arith)
before_joins a b c (inr h) (inl g) = inl (let e = h.0 in omega arith)
before_joins a b c (inr h) (inr g) = inr (h.0 ∙ g.0, let p = h.1 in let q = g.1 in omega arith)

first_joins : (a b : Line) (ws : List Wire) → ComesBefore a b → ComesFirst b ws → ComesFirst a ws
first_joins a b [] before first = tt
first_joins a b (w ∷ ws) before first = (before_joins a b w.from before first.0, first_joins a b ws before first.1)

-- two numbers are in order, one way or the other, or they are one
number_cases : (m n : ℕ) → (m < n) ⊎ ((n < m) ⊎ (m ≡ n))
number_cases m n = grind (arith, nat_tests)

line_cases : (a b : Line) → ComesBefore a b ⊎ (ComesBefore b a ⊎ (a ≡ b))
line_cases a b =
    elim (number_cases a.element b.element) [
      | inl low ↦ inl (inl low)
      | inr other ↦
          (elim other [
            | inl high ↦ inr (inl (inl high))
            | inr same ↦
                (elim (number_cases a.line b.line) [
                  | inl low ↦ inl (inr (same, low))
                  | inr rest ↦
                      (elim rest [
                        | inl high ↦ inr (inl (inr (sym same, high)))
                        | inr both ↦ inr (inr (same_lines a b same both))
                      ])
                ])
          ])
    ]

-- no wire leaves a line that comes before all of them
target-first : (a : Line) (ws : List Wire) → ComesFirst a ws → target ws a ≡ None
target-first a [] first = refl
target-first a (w ∷ ws) first =
    elim (line_tells w.from a) [
      | inl here ↦ absurd (before_itself a (subst (ComesBefore a) here.1 first.0))
      | inr there ↦ rw there.0 (target-first a ws first.1)
    ]

target-here : (w : Wire) (ws : List Wire) → target (w ∷ ws) w.from ≡ Some w.to
target-here w ws =
    elim (line_tells w.from w.from) [
      | inl here ↦ rw here.0 refl
      | inr there ↦ absurd (there.1 refl)
    ]

target-later : (w : Wire) (ws : List Wire) (a : Line) → (w.from ≡ a → ⊥) → target (w ∷ ws) a ≡ target ws a
target-later w ws a other =
    elim (line_tells w.from a) [
      | inl here ↦ absurd (other here.1)
      | inr there ↦ rw there.0 refl
    ]

same_wires : (v w : Wire) → v.from ≡ w.from → v.to ≡ w.to → v ≡ w
same_wires v w from to = λ i. record { from = from i; to = to i }

-- two lists of wires in order that lead alike are one list
pub in_order-same : (xs ys : List Wire) → AreInOrder xs → AreInOrder ys → ((a : Line) → target xs a ≡ target ys a)
    → xs ≡ ys
in_order-same [] [] first second alike = refl
in_order-same [] (y ∷ ys) first second alike = absurd (let none = alike y.from in let some = target-here y ys in cc)
in_order-same (x ∷ xs) [] first second alike = absurd (let none = alike x.from in let some = target-here x xs in cc)
in_order-same (x ∷ xs) (y ∷ ys) first second alike =
    elim (line_cases x.from y.from) [
      | inl low ↦ absurd (let some = target-here x xs in let none = target-first x.from (y ∷ ys)
          (low, first_joins x.from y.from ys low second.0) in let
          both = alike x.from in cc)
      | inr other ↦
          (elim other [
            | inl high ↦ absurd (let some = target-here y ys in let none = target-first y.from (x ∷ xs)
                (high, first_joins y.from x.from xs high first.0) in
                let both = alike y.from in cc)
            | inr same ↦
                (let some : Some x.to ≡ Some y.to = sym (target-here x xs) ∙ alike x.from
                ∙ subst (λ a. target (y ∷ ys) a ≡ Some y.to) (sym same)
                (target-here y ys) in
                let to : x.to ≡ y.to = cc in
                let rest = in_order-same xs ys first.1 second.1 (tails same) in
                ap (λ w. w ∷ xs) (same_wires x y same to) ∙ ap (λ ws. y ∷ ws) rest)
          ])
    ]
  where
    tails : x.from ≡ y.from → (a : Line) → target xs a ≡ target ys a
    tails same a =
        elim (line_tells x.from a) [
          | inl here ↦
              (let left : target xs a ≡ None = target-first a xs (subst (λ l. ComesFirst l xs) here.1 first.0) in
              let right : target ys a ≡ None = target-first a ys (subst (λ l. ComesFirst l ys) (sym same ∙ here.1)
              second.0) in
              left ∙ sym right)
          | inr there ↦ sym (target-later x xs a there.1) ∙ alike a ∙ target-later y ys a (λ e. there.1 (same ∙ e))
        ]

-- ---- the wires of rows

row_first : (a : Line) (e l : ℕ) (row : List (Option Line)) (ws : List Wire) → a.element ≡ e → a.line < l
    → ComesFirst a ws
    → ComesFirst a (wires_of_row e l row ++ ws)
row_first a e l [] ws same low first = first
row_first a e l (None ∷ row) ws same low first = row_first a e (suc l) row ws same (omega arith) first
row_first a e l (Some to ∷ row) ws same low first = (
  inr (same, low),
  row_first a e (suc l) row ws same (omega arith) first,
)

later_row_first : (a : Line) (e l : ℕ) (row : List (Option Line)) (ws : List Wire) → a.element < e → ComesFirst a ws
    → ComesFirst a (wires_of_row e l row ++ ws)
later_row_first a e l [] ws low first = first
later_row_first a e l (None ∷ row) ws low first = later_row_first a e (suc l) row ws low first
later_row_first a e l (Some to ∷ row) ws low first = (inl low, later_row_first a e (suc l) row ws low first)

rows_first : (a : Line) (e : ℕ) (rows : Rows) → a.element < e → ComesFirst a (wires_of e rows)
rows_first a e [] low = tt
rows_first a e (row ∷ rows) low = later_row_first a e 0 row (wires_of (suc e) rows) low
    (rows_first a (suc e) rows (omega arith))

row_in_order : (e l : ℕ) (row : List (Option Line)) (ws : List Wire) → ((a : Line) → a.element ≡ e → ComesFirst a ws)
    → AreInOrder ws
    → AreInOrder (wires_of_row e l row ++ ws)
row_in_order e l [] ws first rest = rest
row_in_order e l (None ∷ row) ws first rest = row_in_order e (suc l) row ws first rest
row_in_order e l (Some to ∷ row) ws first rest =
    let here : Line = record { element = e; line = l } in
    (row_first here e (suc l) row ws refl (omega arith) (first here refl), row_in_order e (suc l) row ws first rest)

-- the wires of rows are in order
pub rows_in_order : (e : ℕ) (rows : Rows) → AreInOrder (wires_of e rows)
rows_in_order e [] = tt
rows_in_order e (row ∷ rows) =
    row_in_order e 0 row (wires_of (suc e) rows) (λ a same. rows_first a (suc e) rows (omega arith))
    (rows_in_order (suc e) rows)

-- so are those of a net
pub view-AreInOrder : {E : Type 0} (elements : List E) (targets : Rows) (now : Parts E)
    → record { elements = elements; wires = wires_of 0 targets } ≡ now
    → AreInOrder now.wires
view-AreInOrder {E} elements targets now is = subst (λ (n : Parts E). AreInOrder n.wires) is (rows_in_order 0 targets)

-- ---- no two wires leave one line

later_comes : (a : Line) (ws : List Wire) (j : ℕ) (w : Wire) → ComesFirst a ws → slice_get ws j ≡ Some w
    → ComesBefore a w.from
later_comes a [] j w first there = absurd (cc)
later_comes a (v ∷ ws) zero w first there = let same : v ≡ w =
    cc in subst (λ (x : Wire). ComesBefore a x.from) same first.0
later_comes a (v ∷ ws) (suc j) w first there = later_comes a ws j w first.1 there

apart_from_later : (u : Wire) (ws : List Wire) (j : ℕ) (v w : Wire) → ComesFirst u.from ws → u ≡ v
    → slice_get ws j ≡ Some w → v.from ≡ w.from → ⊥
apart_from_later u ws j v w first here there lines =
    let one : w.from ≡ u.from = sym lines ∙ ap (λ (x : Wire). x.from) (sym here) in
    before_itself u.from (subst (ComesBefore u.from) one (later_comes u.from ws j w first there))

pub wires-once : WiresStandOnce
wires-once [] i j v w order here there lines = absurd (cc)
wires-once (u ∷ ws) zero zero v w order here there lines = refl
wires-once (u ∷ ws) zero (suc j) v w order here there lines =
    absurd (apart_from_later u ws j v w order.0 (let e = here in cc) there lines)
wires-once (u ∷ ws) (suc i) zero v w order here there lines =
    absurd (apart_from_later u ws i w v order.0 (let e = there in cc) here (sym lines))
wires-once (u ∷ ws) (suc i) (suc j) v w order here there lines = ap suc (wires-once ws i j v w order.1 here there lines)
