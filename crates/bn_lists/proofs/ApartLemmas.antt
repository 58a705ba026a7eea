-- Lists without repeats.
use Rattle.std.proofs.Common.{◌≡◌, inl, inr, Bool, true, false, cond, slice_get, ℕ, zero, suc, ◌+◌, ◌<◌, ◌≤◌, List, []}
use Rattle.std.proofs.Common.{◌∷◌, ◌++◌, length, map, Some, refl, sym, ap, subst, ◌∙◌, arith, length-append}
use Rattle.std.specs.List.{filter, range_with_len}
use Rattle.std.proofs.lemmas.Bool.Decides.{eqb_tells}
use Rattle.bn_lists.specs.Lists.{Has}
use Rattle.bn_lists.proofs.MemberLemmas.{place_of, in_front, behind, of_two}

-- no element stands twice
abbrev pub IsApart : {A : Type 0} → List A → Type 0
IsApart [] = Unit {0}
IsApart (x ∷ l) = (Has l x → ⊥) × IsApart l

abbrev pub IsWithin : {A : Type 0} → List A → List A → Type 0
IsWithin {A} l k = (x : A) → Has l x → Has k x

-- a list split at an element
pub split_at : {A : Type 0} (k : List A) (x : A) → Has k x → (before : List A) × (after : List A)
    × (k ≡ before ++ x ∷ after)
split_at [] x h = absurd h
split_at (y ∷ k) x (inl e) = ([], k, ap (λ z. z ∷ k) (sym e))
split_at (y ∷ k) x (inr h) = let more = split_at k x h in (y ∷ more.0, more.1, ap (λ l. y ∷ l) more.2)

-- a list without repeats within another isn't longer
pub fewer : {A : Type 0} (l k : List A) → IsApart l → IsWithin l k → length l ≤ length k
fewer [] k apart within = omega arith
fewer (x ∷ l) k apart within =
    let parts = split_at k x (within x (inl refl)) in
    let long : length k ≡ length parts.0 + suc (length parts.1) =
    ap length parts.2 ∙ length-append parts.0 (x ∷ parts.1) in
    let less = fewer l (parts.0 ++ parts.1) apart.1 (λ y h. beside parts.0 parts.1 y
    (λ e. apart.0 (subst (λ z. Has l z) e h)) (subst (λ l. Has l y) parts.2 (within y (inr h)))) in
    omega (arith, length-append parts.0 parts.1)
  where
    beside : (before after : List _) (y : _) → (y ≡ x → ⊥) → Has (before ++ x ∷ after) y → Has (before ++ after) y
    beside before after y other h = elim (of_two before (x ∷ after) y h) [
      | inl front ↦ in_front before after y front
      | inr back ↦ later back
    ]
      where
        later : Has (x ∷ after) y → Has (before ++ after) y
        later (inl e) = absurd (other e)
        later (inr k) = behind before after y k

-- two such lists with the same elements are equally long
pub same_length : {A : Type 0} (l k : List A) → IsApart l → IsApart k → IsWithin l k → IsWithin k l
    → length l ≡ length k
same_length l k a b f g = let one = fewer l k a f in let two = fewer k l b g in omega arith

-- lists one behind the other
pub joined : {A : Type 0} (l k : List A) → IsApart l → IsApart k → ((x : A) → Has l x → Has k x → ⊥) → IsApart (l ++ k)
joined [] k a b far = b
joined (x ∷ l) k a b far = (
  λ h. elim (of_two l k x h) [ inl one ↦ a.0 one | inr two ↦ far x (inl refl) two ],
  joined l k a.1 b (λ y h. far y (inr h)),
)

-- images
pub mapped : {A B : Type 0} (f : A → B) (l : List A) (x : A) → Has l x → Has (map f l) (f x)
mapped f [] x h = h
mapped f (y ∷ l) x (inl e) = inl (ap f e)
mapped f (y ∷ l) x (inr h) = inr (mapped f l x h)

pub from_mapped : {A B : Type 0} (f : A → B) (l : List A) (y : B) → Has (map f l) y → (x : A) × Has l x × (f x ≡ y)
from_mapped f [] y h = absurd h
from_mapped f (x ∷ l) y (inl e) = (x, inl refl, sym e)
from_mapped f (x ∷ l) y (inr h) = let more = from_mapped f l y h in (more.0, inr more.1, more.2)

pub apart_mapped : {A B : Type 0} (f : A → B) → ((x y : A) → f x ≡ f y → x ≡ y) → (l : List A) → IsApart l
    → IsApart (map f l)
apart_mapped f one [] a = tt
apart_mapped f one (x ∷ l) a = (
  λ h. (let found = from_mapped f l (f x) h in a.0 (subst (λ z. Has l z) (one found.0 x found.2) found.1)),
  apart_mapped f one l a.1,
)

-- those that pass a test
pub filtered : {A : Type 0} (p : A → Bool) (l : List A) (x : A) → Has l x → p x ≡ true → Has (filter p l) x
filtered p [] x h e = h
filtered p (y ∷ l) x (inl is) e = let there : p y ≡ true = ap p (sym is) ∙ e in rw there (inl is)
filtered p (y ∷ l) x (inr h) e = by (p y) (filtered p l x h e)
  where
    by : (b : Bool) → Has (filter p l) x → Has (cond b (y ∷ filter p l) (filter p l)) x
    by true more = inr more
    by false more = more

pub from_filtered : {A : Type 0} (p : A → Bool) (l : List A) (x : A) → Has (filter p l) x → Has l x × (p x ≡ true)
from_filtered p [] x h = absurd h
from_filtered p (y ∷ l) x h = by (p y) refl (from_filtered p l x) h
  where
    by : (b : Bool) → p y ≡ b → (Has (filter p l) x → Has l x × (p x ≡ true))
        → Has (cond b (y ∷ filter p l) (filter p l)) x → Has (y ∷ l) x × (p x ≡ true)
    by true e later (inl is) = (inl is, ap p is ∙ e)
    by true e later (inr h) = let more = later h in (inr more.0, more.1)
    by false e later h = let more = later h in (inr more.0, more.1)

pub apart_filtered : {A : Type 0} (p : A → Bool) (l : List A) → IsApart l → IsApart (filter p l)
apart_filtered p [] a = tt
apart_filtered p (y ∷ l) a = by (p y) (apart_filtered p l a.1)
  where
    by : (b : Bool) → IsApart (filter p l) → IsApart (cond b (y ∷ filter p l) (filter p l))
    by true rest = ((λ h. a.0 (from_filtered p l y h).0), rest)
    by false rest = rest

-- a list whose places tell its elements
pub apart_places : {A : Type 0} (l : List A) → ((i j : ℕ) (x : A) → slice_get l i ≡ Some x → slice_get l j ≡ Some x
    → i ≡ j) → IsApart l
apart_places [] once = tt
apart_places (x ∷ l) once = (
  λ h. (let at = place_of l x h in let e = once 0 (suc at.0) x refl at.1 in omega arith),
  apart_places l (λ i j y a b. let e = once (suc i) (suc j) y a b in omega arith),
)

-- numbers in a row
pub range_member : (a n x : ℕ) → a ≤ x → x < a + n → Has (range_with_len a n) x
range_member a zero x low high = absurd (omega arith)
range_member a (suc n) x low high = elim (eqb_tells x a) [
  | inl same ↦ inl same.1
  | inr other ↦ (let ne = other.1 in inr (range_member (a + 1) n x (omega arith) (omega arith)))
]

pub from_range : (a n x : ℕ) → Has (range_with_len a n) x → (a ≤ x) × (x < a + n)
from_range a zero x h = absurd h
from_range a (suc n) x (inl e) = (omega arith, omega arith)
from_range a (suc n) x (inr h) = let more = from_range (a + 1) n x h in let low = more.0 in let high =
    more.1 in (omega arith, omega arith)

pub range_apart : (a n : ℕ) → IsApart (range_with_len a n)
range_apart a zero = tt
range_apart a (suc n) = ((λ h. (let low = (from_range (a + 1) n a h).0 in omega arith)), range_apart (a + 1) n)
