-- Terms for lists, whose entries are counted from 1, and for numbers.
use Rattle.std.specs.Prelude.{◌≡◌, ℕ, zero, suc, ◌<◌, List, [], ◌∷◌, Option, Some, None, slice_get, ◌⊎◌}

-- the n-th entry of a list, counted from 1
abbrev pub nth : {X : Type 0} → List X → ℕ → Option X
nth xs zero = None
nth xs (suc i) = slice_get xs i

-- x is in the list
pub record IsIn {X : Type 0} (xs : List X) (x : X) : Type 0 where
  pub place : ℕ
  pub stands : nth xs place ≡ Some x

-- The list contains the element, by recursion: as its first entry or among the rest.
abbrev pub Has : {X : Type 0} → List X → X → Type 0
Has [] x = ⊥
Has (y ∷ ys) x = (x ≡ y) ⊎ Has ys x

-- each entry before the n-th has the property
pub record AllBefore {X : Type 0} (P : X → Type 0) (xs : List X) (n : ℕ) : Type 0 where
  pub each : (m : ℕ) (x : X) → m < n → nth xs m ≡ Some x → P x

-- the n-th entry is x, and it is the first that has the property
pub record IsFirstWith {X : Type 0} (P : X → Type 0) (xs : List X) (n : ℕ) (x : X) : Type 0 where
  pub stands : nth xs n ≡ Some x
  pub holds : P x
  pub first : (m : ℕ) (y : X) → m < n → nth xs m ≡ Some y → P y → ⊥

-- no entry has the property
pub record HasNone {X : Type 0} (P : X → Type 0) (xs : List X) : Type 0 where
  pub none : (n : ℕ) (x : X) → nth xs n ≡ Some x → P x → ⊥

-- the number is the least that has the property
pub record IsLeast (P : ℕ → Type 0) (n : ℕ) : Type 0 where
  pub holds : P n
  pub least : (m : ℕ) → m < n → P m → ⊥
