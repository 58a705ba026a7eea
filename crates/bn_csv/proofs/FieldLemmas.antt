-- A list by its elements.
use Rattle.std.proofs.Common.{◌≡◌, ◌∷◌, ℕ, suc, List, [], length, Some, refl, arith, slice_get}
use Rattle.std.specs.Prelude.{⊤}

-- from this place on, these elements stand in the list
abbrev pub StandAt : {X : Type 0} → List X → ℕ → List X → Type 0
StandAt xs place [] = ⊤
StandAt xs place (y ∷ ys) = (slice_get xs place ≡ Some y) × StandAt xs (suc place) ys

behind : {X : Type 0} (x : X) (xs : List X) (place : ℕ) (ys : List X) → StandAt (x ∷ xs) (suc place) ys
    → StandAt xs place ys
behind x xs place [] h = tt
behind x xs place (y ∷ ys) h = (h.0, behind x xs (suc place) ys h.1)

-- as many elements, each at its place, are the list
pub list_is : {X : Type 0} (xs ys : List X) → length xs ≡ length ys → StandAt xs 0 ys → xs ≡ ys
list_is [] [] long h = refl
list_is [] (y ∷ ys) long h = absurd (omega arith)
list_is (x ∷ xs) [] long h = absurd (omega arith)
list_is (x ∷ xs) (y ∷ ys) long h =
    let first : x ≡ y = cc in
    let rest = list_is xs ys (omega arith) (behind x xs 0 ys h.1) in
    λ i. first i ∷ rest i
