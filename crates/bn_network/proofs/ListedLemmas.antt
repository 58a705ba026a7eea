-- Properties whose elements can be listed.
use Rattle.std.proofs.Common.{◌≡◌, ◌⊎◌, inl, inr, slice_get, ℕ, zero, suc, ◌<◌, List, [], ◌∷◌, ◌++◌, reverse, Some}
use Rattle.std.proofs.Common.{refl, sym, ap, subst, arith}
use Rattle.std.proofs.lemmas.Bool.{cases_lt}
use mathlib.Core.List.{reverse_aux}
use Rattle.bn_lists.specs.Lists.{Has, nth}
use Rattle.bn_lists.proofs.MemberLemmas.{in_front, behind, of_two}

-- what a list is split at is an element
pub member_split : {A : Type 0} (l before rest : List A) (p : A) → l ≡ before ++ (p ∷ rest) → Has l p
member_split [] [] rest p e = absurd (cc)
member_split [] (b ∷ before) rest p e = absurd (cc)
member_split (y ∷ l) [] rest p e = let same : y ≡ p = cc in inl (sym same)
member_split (y ∷ l) (b ∷ before) rest p e = inr (member_split l before rest p cc)

-- an element of a list turned round onto another is one of either
turned_onto : {A : Type 0} (l acc : List A) (x : A) → Has (reverse_aux l acc) x → Has l x ⊎ Has acc x
turned_onto [] acc x h = inr h
turned_onto (y ∷ l) acc x h = elim (turned_onto l (y ∷ acc) x h)
    [ inl here ↦ inl (inr here) | inr there ↦ elim there [ inl e ↦ inl (inl e) | inr more ↦ inr more ] ]

-- an element of a list turned round is one of the list
pub member_turned : {A : Type 0} (l : List A) (x : A) → Has (reverse l) x → Has l x
member_turned l x h = elim (turned_onto l [] x h) [ inl here ↦ here | inr none ↦ absurd none ]

-- what has the property, in a list
pub record Listing {A : Type 0} (P : A → Type 0) : Type 0 where
  pub items : List A
  pub each : (x : A) → P x → Has items x
  pub only : (x : A) → Has items x → P x

-- nothing has it
pub nothing : {A : Type 0} (P : A → Type 0) → ((x : A) → P x → ⊥) → Listing P
nothing P none = record { items = []; each = λ x h. none x h; only = λ x h. absurd h }

-- one thing has it
pub alone : {A : Type 0} (P : A → Type 0) (a : A) → P a → ((x : A) → P x → x ≡ a) → Listing P
alone P a has one = record { items = a ∷ []; each = λ x h. inl (one x h); only = only }
  where
    only : (x : _) → Has (a ∷ []) x → P x
    only x (inl e) = subst P (sym e) has
    only x (inr h) = absurd h

-- one of two properties
pub either : {A : Type 0} (P Q : A → Type 0) → Listing P → Listing Q → Listing (λ x. P x ⊎ Q x)
either P Q a b = record { items = a.items ++ b.items; each = each; only = only }
  where
    each : (x : _) → P x ⊎ Q x → Has (a.items ++ b.items) x
    each x (inl h) = in_front a.items b.items x (a.each x h)
    each x (inr h) = behind a.items b.items x (b.each x h)

    only : (x : _) → Has (a.items ++ b.items) x → P x ⊎ Q x
    only x h = elim (of_two a.items b.items x h) [ inl here ↦ inl (a.only x here) | inr there ↦ inr (b.only x there) ]

-- a property that says the same
pub same : {A : Type 0} (P Q : A → Type 0) → Listing P → ((x : A) → P x → Q x) → ((x : A) → Q x → P x) → Listing Q
same P Q a forth back = record {
  items = a.items;
  each = λ x h. a.each x (back x h);
  only = λ x h. forth x (a.only x h);
}

-- for each element of a list, what has the property
along : {A B : Type 0} (Q : A → B → Type 0) (l : List A) → ((x : A) → Has l x → Listing (Q x))
    → Listing (λ y. (x : A) × Has l x × Q x y)
along {A = A} {B = B} Q [] f = nothing (λ (y : B). (x : A) × Has [] x × Q x y) (λ y h. h.1)
along {A = A} {B = B} Q (a ∷ l) f =
    same (λ y. Q a y ⊎ ((x : A) × Has l x × Q x y)) (λ y. (x : A) × Has (a ∷ l) x
    × Q x y) (either (Q a) (λ y. (x : A) × Has l x × Q x y) (f a (inl refl)) (along Q l (λ x h. f x (inr h)))) forth
    back
  where
    forth : (y : B) → Q a y ⊎ ((x : A) × Has l x × Q x y) → (x : A) × Has (a ∷ l) x × Q x y
    forth y (inl q) = (a, inl refl, q)
    forth y (inr h) = (h.0, inr h.1, h.2)

    pick : (y : B) (x : A) → Has (a ∷ l) x → Q x y → Q a y ⊎ ((x : A) × Has l x × Q x y)
    pick y x (inl e) q = inl (subst (λ z. Q z y) e q)
    pick y x (inr h) q = inr (x, h, q)

    back : (y : B) → (x : A) × Has (a ∷ l) x × Q x y → Q a y ⊎ ((x : A) × Has l x × Q x y)
    back y h = pick y h.0 h.1 h.2

-- for each that has the first property, what has the second
pub for_each : {A B : Type 0} (P : A → Type 0) (Q : A → B → Type 0) → Listing P → ((x : A) → P x → Listing (Q x))
    → Listing (λ y. (x : A) × P x × Q x y)
for_each {A = A} {B = B} P Q a f =
    same (λ y. (x : A) × Has a.items x × Q x y) (λ y. (x : A) × P x
    × Q x y) (along Q a.items (λ x h. f x (a.only x h))) (λ y h. (h.0, a.only h.0 h.1, h.2))
    (λ y h. (h.0, a.each h.0 h.1, h.2))

-- those of the first property that also have the second, which can be told
pub those : {A : Type 0} (P Q : A → Type 0) → Listing P → ((x : A) → Q x ⊎ (Q x → ⊥)) → Listing (λ x. P x × Q x)
those {A = A} P Q a tells =
    same (λ y. (x : A) × P x × ((y ≡ x) × Q x)) (λ x. P x × Q x)
    (for_each P (λ x y. (y ≡ x) × Q x) a (λ x h. one x (tells x)))
    (λ y h. let is = sym h.2.0 in (subst P is h.1, subst Q is h.2.1)) (λ y h. (y, h.0, (refl, h.1)))
  where
    one : (x : A) → Q x ⊎ (Q x → ⊥) → Listing (λ y. (y ≡ x) × Q x)
    one x (inl q) = alone (λ y. (y ≡ x) × Q x) x (refl, q) (λ y h. h.0)
    one x (inr none) = nothing (λ y. (y ≡ x) × Q x) (λ y h. none h.1)

-- numbers below a bound
pub below : (n : ℕ) → Listing (λ x. x < n)
below zero = nothing (λ x. x < 0) (λ x h. omega arith)
below (suc n) =
    same (λ x. (x ≡ n) ⊎ (x < n)) (λ x. x < suc n) (either (λ x. x ≡ n) (λ x. x < n)
    (alone (λ x. x ≡ n) n refl (λ x e. e)) (below n)) forth back
  where
    forth : (x : ℕ) → (x ≡ n) ⊎ (x < n) → x < suc n
    forth x (inl e) = omega arith
    forth x (inr h) = omega arith

    back : (x : ℕ) → x < suc n → (x ≡ n) ⊎ (x < n)
    back x h = elim (cases_lt x n) [ inl low ↦ inr low | inr high ↦ inl (omega arith) ]

-- the elements of a list with their places
pub standing : {A : Type 0} (l : List A) → Listing (λ (p : ℕ × A). slice_get l p.0 ≡ Some p.1)
standing {A = A} [] = nothing (λ (p : ℕ × A). slice_get [] p.0 ≡ Some p.1) (λ p e. cc)
standing {A = A} (a ∷ l) =
    same First (λ p. slice_get (a ∷ l) p.0 ≡ Some p.1)
    (either (λ (p : ℕ × A). p ≡ (0, a)) Later (alone (λ (p : ℕ × A). p ≡ (0, a)) (0, a) refl (λ x e. e))
    (for_each (λ (q : ℕ × A). slice_get l q.0 ≡ Some q.1) (λ (q p : ℕ × A). p ≡ (suc q.0, q.1)) (standing l)
    (λ q h. alone (λ (p : ℕ
    × A). p ≡ (suc q.0, q.1)) (suc q.0, q.1) refl (λ x e. e))))
    forth (λ p e. back p.0 p.1 e)
  where
    Later : ℕ × A → Type 0
    Later p = (q : ℕ × A) × (slice_get l q.0 ≡ Some q.1) × (p ≡ (suc q.0, q.1))

    First : ℕ × A → Type 0
    First p = (p ≡ (0, a)) ⊎ Later p

    forth : (p : ℕ × A) → First p → slice_get (a ∷ l) p.0 ≡ Some p.1
    forth p (inl e) = rw e refl
    forth p (inr h) = rw h.2 h.1

    back : (n : ℕ) (x : A) → slice_get (a ∷ l) n ≡ Some x → First (n, x)
    back zero x e = let one : x ≡ a = cc in inl (λ i. (0, one i))
    back (suc n) x e = inr ((n, x), e, refl)

-- the entries of a list with their numbers from 1
pub entries : {A : Type 0} (l : List A) → Listing (λ (p : ℕ × A). nth l p.0 ≡ Some p.1)
entries {A = A} l =
    same Later (λ p. nth l p.0 ≡ Some p.1)
    (for_each (λ (q : ℕ × A). slice_get l q.0 ≡ Some q.1) (λ (q p : ℕ × A). p ≡ (suc q.0, q.1)) (standing l)
    (λ q h. alone (λ (p : ℕ
    × A). p ≡ (suc q.0, q.1)) (suc q.0, q.1) refl (λ x e. e)))
    (λ p h. rw h.2 h.1) (λ p e. back p.0 p.1 e)
  where
    Later : ℕ × A → Type 0
    Later p = (q : ℕ × A) × (slice_get l q.0 ≡ Some q.1) × (p ≡ (suc q.0, q.1))

    back : (n : ℕ) (x : A) → nth l n ≡ Some x → Later (n, x)
    back zero x e = absurd (cc)
    back (suc n) x e = ((n, x), e, refl)

-- where a list can be split
pub splits : {A : Type 0} (l : List A) → Listing (λ (s : List A × A × List A). l ≡ s.0 ++ (s.1 ∷ s.2))
splits {A = A} [] = nothing (λ (s : List A × A × List A). [] ≡ s.0 ++ (s.1 ∷ s.2)) (λ s e. none s.0 s.1 s.2 e)
  where
    none : (b : List A) (p : A) (r : List A) → [] ≡ b ++ (p ∷ r) → ⊥
    none [] p r e = cc
    none (x ∷ b) p r e = cc
splits {A = A} (a ∷ l) =
    same First (λ s. a ∷ l ≡ s.0 ++ (s.1 ∷ s.2))
    (either (λ (s : List A × A × List A). s ≡ ([], a, l)) Later
    (alone (λ (s : List A × A × List A). s ≡ ([], a, l)) ([], a, l) refl (λ x e. e))
    (for_each (λ (s : List A × A × List A). l ≡ s.0 ++ (s.1 ∷ s.2))
    (λ (s t : List A × A × List A). t ≡ (a ∷ s.0, s.1, s.2)) (splits l)
    (λ s h. alone (λ (t : List A × A × List A). t ≡ (a ∷ s.0, s.1, s.2)) (a ∷ s.0, s.1, s.2) refl (λ x e. e))))
    forth (λ s e. back s.0 s.1 s.2 e)
  where
    Later : List A × A × List A → Type 0
    Later t = (s : List A × A × List A) × (l ≡ s.0 ++ (s.1 ∷ s.2)) × (t ≡ (a ∷ s.0, s.1, s.2))

    First : List A × A × List A → Type 0
    First s = (s ≡ ([], a, l)) ⊎ Later s

    forth : (s : List A × A × List A) → First s → a ∷ l ≡ s.0 ++ (s.1 ∷ s.2)
    forth s (inl e) = rw e refl
    forth s (inr h) = let rest = h.1 in rw h.2 (ap (λ k. a ∷ k) rest)

    back : (b : List A) (p : A) (r : List A) → a ∷ l ≡ b ++ (p ∷ r) → First (b, p, r)
    back [] p r e = let one : p ≡ a = cc in let two : r ≡ l = cc in inl (λ i. ([], one i, two i))
    back (x ∷ b) p r e = let one : x ≡ a = cc in let rest : l ≡ b ++ (p ∷ r) =
        cc in inr ((b, p, r), rest, λ i. (one i ∷ b, p, r))
