-- Names of the states and of the symbols of a quadruple machine (this project's own profile).
use Rattle.std.specs.Prelude.{◌≡◌, ℕ, zero, suc, ◌<◌, ◌^◌, List, [], ◌∷◌, ◌++◌, length, slice_get, Some}

-- no two numbers have the same name
pub record AreApart (names : List (List ℕ)) : Type 0 where
  pub same : (name : List ℕ) (m n : ℕ) → slice_get names m ≡ Some name → slice_get names n ≡ Some name → m ≡ n

-- the names are apart, and there are fewer than 2^32
pub record AreNames (names : List (List ℕ)) : Type 0 where
  pub apart : AreApart names
  pub few : length names < 2 ^ 32

-- the names of the states, and of the symbols of tape 1, 2 and 3; a name's number is its place, counted from 0
pub record Naming : Type 0 where
  pub states : List (List ℕ)
  pub one : List (List ℕ)
  pub two : List (List ℕ)
  pub three : List (List ℕ)

abbrev pub naming_of : List (List ℕ) → List (List ℕ) → List (List ℕ) → List (List ℕ) → Naming
naming_of states one two three = record { states = states; one = one; two = two; three = three }

-- no names
abbrev pub nameless : Naming
nameless = naming_of [] [] [] []

-- the names of the symbols of a tape, counted from 1
abbrev pub symbols_on : Naming → ℕ → List (List ℕ)
symbols_on n zero = []
symbols_on n (suc zero) = n.one
symbols_on n (suc (suc zero)) = n.two
symbols_on n (suc (suc (suc tape))) = n.three

-- the naming with one more state, and with one more symbol on a tape
abbrev pub with_state : Naming → List ℕ → Naming
with_state n name = naming_of (n.states ++ name ∷ []) n.one n.two n.three

abbrev pub with_symbol : Naming → ℕ → List ℕ → Naming
with_symbol n zero name = n
with_symbol n (suc zero) name = naming_of n.states (n.one ++ name ∷ []) n.two n.three
with_symbol n (suc (suc zero)) name = naming_of n.states n.one (n.two ++ name ∷ []) n.three
with_symbol n (suc (suc (suc tape))) name = naming_of n.states n.one n.two (n.three ++ name ∷ [])
