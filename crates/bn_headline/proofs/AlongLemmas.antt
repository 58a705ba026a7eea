-- What each quadruple of a list gives, with its number, and sums over such lists.
use Rattle.std.proofs.Common.{◌≡◌, inl, inr, slice_get, ℕ, zero, suc, ◌+◌, ◌*◌, List, [], ◌∷◌, ◌++◌, length, map}
use Rattle.std.proofs.Common.{reverse, Some, refl, ap, subst, ◌∙◌, arith, length-append, append-nil}
use Rattle.std.specs.List.{flat_map, enumerate_from}
use Rattle.std.proofs.lemmas.Grind.{flat_map-append}
use Rattle.std.proofs.lemmas.List.{reverse-append}
use Rattle.bn_machine.specs.declared.quint.Quint.{Quint}
use Rattle.bn_quad.specs.Quadruples.{Deed, Rule, deeds_of}
use Rattle.bn_bennett_laws.specs.Renamed.{rename}
use Rattle.bn_lists.specs.Lists.{Has}
use Rattle.bn_lists.proofs.MemberLemmas.{in_front, behind, of_two}
use Rattle.bn_lists.proofs.ApartLemmas.{IsApart, joined}

abbrev pub along : {Q A : Type 0} → (ℕ → Rule Q → List A) → ℕ → List (Rule Q) → List A
along f n [] = []
along f n (r ∷ rs) = f n r ++ along f (suc n) rs

pub along_member : {Q A : Type 0} (f : ℕ → Rule Q → List A) (n : ℕ) (rs : List (Rule Q)) (i : ℕ) (r : Rule Q) (x : A)
    → slice_get rs i ≡ Some r → Has (f (n + i) r) x → Has (along f n rs) x
along_member f n [] i r x e h = absurd (cc)
along_member f n (s ∷ rs) zero r x e h =
    let same : r ≡ s = cc in
    let place : n + 0 ≡ n = omega arith in
    in_front (f n s) (along f (suc n) rs) x (subst (λ v. Has (f n v) x) same (subst (λ k. Has (f k r) x) place h))
along_member f n (s ∷ rs) (suc i) r x e h =
    let place : n + suc i ≡ suc n + i = omega arith in
    behind (f n s) (along f (suc n) rs) x (along_member f (suc n) rs i r x e (subst (λ k. Has (f k r) x) place h))

pub from_along : {Q A : Type 0} (f : ℕ → Rule Q → List A) (n : ℕ) (rs : List (Rule Q)) (x : A) → Has (along f n rs) x
    → (i : ℕ) × (r : Rule Q) × (slice_get rs i ≡ Some r) × Has (f (n + i) r) x
from_along f n [] x h = absurd h
from_along f n (s ∷ rs) x h = elim (of_two (f n s) (along f (suc n) rs) x h) [
  | inl here ↦ (let place : n ≡ n + 0 = omega arith in (0, s, refl, subst (λ k. Has (f k s) x) place here))
  | inr there ↦ (let more = from_along f (suc n) rs x there in let place : suc n + more.0
      ≡ n + suc more.0 = omega arith in (suc more.0, more.1, more.2, subst (λ k. Has (f k more.1) x) place more.3))
]

pub apart_along : {Q A : Type 0} (f : ℕ → Rule Q → List A) (n : ℕ) (rs : List (Rule Q))
    → ((i : ℕ) (r : Rule Q) → slice_get rs i ≡ Some r → IsApart (f (n + i) r))
    → ((i j : ℕ) (r s : Rule Q) (x : A) → slice_get rs i ≡ Some r → slice_get rs j ≡ Some s → Has (f (n + i) r) x
    → Has (f (n + j) s) x → i ≡ j)
    → IsApart (along f n rs)
apart_along f n [] one far = tt
apart_along {A = A} f n (s ∷ rs) one far =
    joined (f n s) (along f (suc n) rs) (let place : n + 0 ≡ n = omega arith in subst (λ k. IsApart (f k s)) place
    (one 0 s refl))
    (apart_along f (suc n) rs (λ i r e. let place : n + suc i ≡ suc n
    + i = omega arith in subst (λ k. IsApart (f k r)) place (one (suc i) r e))
    (λ i j r t x e d h g. let a : suc n + i ≡ n + suc i = omega arith in let b : suc n + j ≡ n + suc j = omega arith in
    let same = far (suc i) (suc j) r t x e d (subst (λ k. Has (f k r) x) a h) (subst (λ k. Has (f k t) x) b g) in omega
    arith))
    (λ x h g. let found = from_along f (suc n) rs x g in let a : n ≡ n + 0 = omega arith in let b : suc n + found.0
    ≡ n + suc found.0 = omega arith in
    let same = far 0 (suc found.0) s found.1 x refl found.2 (subst (λ k. Has (f k s) x) a h)
    (subst (λ k. Has (f k found.1) x) b found.3) in omega arith)

-- ---- sums

abbrev pub total : {X : Type 0} → (X → ℕ) → List X → ℕ
total g [] = 0
total g (x ∷ xs) = g x + total g xs

pub length_along : {Q A : Type 0} (f : ℕ → Rule Q → List A) (g : Rule Q → ℕ)
    → ((n : ℕ) (r : Rule Q) → length (f n r) ≡ g r) → (n : ℕ) (rs : List (Rule Q)) → length (along f n rs) ≡ total g rs
length_along f g each n [] = refl
length_along f g each n (r ∷ rs) = let one = each n r in let more =
    length_along f g each (suc n) rs in omega (arith, length-append (f n r) (along f (suc n) rs))

pub total_renamed : {P Q : Type 0} (h : List Deed → ℕ) (f : P → Q) (rs : List (Rule P))
    → total (λ r. h (deeds_of r)) (rename f rs) ≡ total (λ r. h (deeds_of r)) rs
total_renamed h f [] = refl
total_renamed h f (r ∷ rs) = ap (λ k. h (deeds_of r) + k) (total_renamed h f rs)

pub total_append : {X : Type 0} (g : X → ℕ) (xs ys : List X) → total g (xs ++ ys) ≡ total g xs + total g ys
total_append g [] ys = omega arith
total_append g (x ∷ xs) ys = let more = total_append g xs ys in omega arith

-- pairs of quadruples, for each quintuple with its number
pub total_pairs : {Q : Type 0} (g : Rule Q → ℕ) (pair : ℕ × Quint → List (Rule Q)) (c : Quint → ℕ)
    → ((m : ℕ) (q : Quint) → total g (pair (m, q)) ≡ c q) → (n : ℕ) (qs : List Quint)
    → total g (flat_map pair (enumerate_from n qs)) ≡ total c qs
total_pairs g pair c each n [] = refl
total_pairs g pair c each n (q ∷ qs) =
    let one = each n q in
    let more = total_pairs g pair c each (n + 1) qs in
    omega (arith, total_append g (pair (n, q)) (flat_map pair (enumerate_from (n + 1) qs)))

-- in either order
pub total_turned : {X Y : Type 0} (g : Y → ℕ) (f : X → List Y) (xs : List X)
    → total g (flat_map f (reverse xs)) ≡ total g (flat_map f xs)
total_turned g f [] = refl
total_turned g f (x ∷ xs) =
    let turn : total g (flat_map f (reverse (x ∷ xs))) ≡ total g (flat_map f (reverse xs) ++ (f x ++ [])) =
    ap (λ l. total g (flat_map f l)) (reverse-append (x ∷ []) xs)
    ∙ ap (total g) (flat_map-append f (reverse xs) (x ∷ [])) in
    let flat : total g (f x ++ []) ≡ total g (f x) = ap (total g) (append-nil (f x)) in
    let more = total_turned g f xs in
    let split = total_append g (flat_map f (reverse xs)) (f x ++ []) in
    let there = total_append g (f x) (flat_map f xs) in
    omega arith

-- quadruples of one kind for each of some letters
pub total_kind : {X Y : Type 0} (g : Y → ℕ) (kind : X → Y) (c : ℕ) → ((x : X) → g (kind x) ≡ c) → (xs : List X)
    → total g (map kind xs) ≡ length xs * c
total_kind g kind c each [] = omega arith
total_kind g kind c each (x ∷ xs) = let one = each x in let more =
    total_kind g kind c each xs in distribute (length xs) c (total g (map kind xs)) (g (kind x)) one more
  where
    distribute : (n c rest first : ℕ) → first ≡ c → rest ≡ n * c → first + rest ≡ suc n * c
    distribute n c rest first e f = grind arith
