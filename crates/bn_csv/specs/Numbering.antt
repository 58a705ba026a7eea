-- Numbering by first appearance: a name's number, counted from 0, is its place among the distinct names in the
-- order in which they first appear.
use Rattle.std.specs.Prelude.{◌≡◌, ℕ, zero, suc, ◌∷◌, ◌++◌, [], List, Bool, not, if◌then◌else◌}
use Rattle.std.specs.Prelude.{nat_eq, filter, bytes_eq, slice_get, Some, Contains}
use Rattle.std.specs.List.{list_any}

-- the distinct elements of a list, in the order of their first appearance; the test says which are the same
unfoldable pub firsts_by : {X : Type 0} → (X → X → Bool) → List X → List X
firsts_by same [] = []
firsts_by same (x ∷ xs) = x ∷ filter (λ y. not (same x y)) (firsts_by same xs)

-- the distinct names of a list of names, in the order of their first appearance
abbrev pub firsts : List (List ℕ) → List (List ℕ)
firsts names = firsts_by bytes_eq names

-- these names and, if the name is new, this name at the end
abbrev pub with_name : List (List ℕ) → List ℕ → List (List ℕ)
with_name names name = if list_any (bytes_eq name) names then names else names ++ name ∷ []

-- a name has this number
abbrev pub HasNumber : List (List ℕ) → List ℕ → ℕ → Type 0
HasNumber names name number = slice_get names number ≡ Some name

-- the numbers below a bound, in order
unfoldable pub numbers_from : ℕ → ℕ → List ℕ
numbers_from first zero = []
numbers_from first (suc count) = first ∷ numbers_from (suc first) count

-- numbers are assigned by first appearance: the first is 0, each new one is the next, and exactly the numbers below the
-- count appear
abbrev pub AreNumberedByFirst : List ℕ → ℕ → Type 0
AreNumberedByFirst numbers count = firsts_by nat_eq numbers ≡ numbers_from 0 count

-- the properties of a numbering by first appearance: each name of the list has exactly one number, and a further name
-- is added at the end if it is new
pub record AreNumbered (names numbered : List (List ℕ)) : Type 0 where
  pub each : (name : List ℕ) → Contains names name → (number : ℕ) × HasNumber numbered name number
  pub apart : (name : List ℕ) (m n : ℕ) → HasNumber numbered name m → HasNumber numbered name n → m ≡ n
  pub grows : (name : List ℕ) → firsts (names ++ name ∷ []) ≡ with_name numbered name
