-- The elements of a list.
use Rattle.std.proofs.Common.{◌≡◌, ◌⊎◌, inl, inr, slice_get, ℕ, zero, suc, List, [], ◌∷◌, ◌++◌, Some, sym, ap}
use Rattle.bn_lists.specs.Lists.{Has}

-- an element has a place
pub place_of : {A : Type 0} (l : List A) (x : A) → Has l x → (n : ℕ) × (slice_get l n ≡ Some x)
place_of [] x h = absurd h
place_of (y ∷ l) x (inl e) = (0, ap (λ z. Some z) (sym e))
place_of (y ∷ l) x (inr h) = let more = place_of l x h in (suc more.0, more.1)

-- what has a place is an element
pub member_at : {A : Type 0} (l : List A) (n : ℕ) (x : A) → slice_get l n ≡ Some x → Has l x
member_at [] n x e = absurd (cc)
member_at (y ∷ l) zero x e = let same : y ≡ x = cc in inl (sym same)
member_at (y ∷ l) (suc n) x e = inr (member_at l n x e)

-- an element of the first part of a list
pub in_front : {A : Type 0} (l k : List A) (x : A) → Has l x → Has (l ++ k) x
in_front [] k x h = absurd h
in_front (y ∷ l) k x (inl e) = inl e
in_front (y ∷ l) k x (inr h) = inr (in_front l k x h)

-- an element of the second part
pub behind : {A : Type 0} (l k : List A) (x : A) → Has k x → Has (l ++ k) x
behind [] k x h = h
behind (y ∷ l) k x h = inr (behind l k x h)

-- an element is of one of the parts
pub of_two : {A : Type 0} (l k : List A) (x : A) → Has (l ++ k) x → Has l x ⊎ Has k x
of_two [] k x h = inr h
of_two (y ∷ l) k x (inl e) = inl (inl e)
of_two (y ∷ l) k x (inr h) = elim (of_two l k x h) [ inl here ↦ inl (inr here) | inr there ↦ inr there ]
