-- Permutations in lexicographic order, numbered from 0 (by the factorial number system).
use Rattle.std.specs.Prelude.{◌≡◌, ℕ, zero, suc, ◌+◌, ◌*◌, ◌<◌, ◌⊎◌, List, [], ◌∷◌, length, Some, slice_get}
use Rattle.std.specs.List.{remove}

-- the number of permutations of n entries
abbrev pub factorial : ℕ → ℕ
factorial zero = 1
factorial (suc n) = suc n * factorial n

-- A permutation with number n begins with x. The entry x is at position `place` of the list, and n = place · m! + left
-- with left < m!, where m is the number of the other entries. The rest of the permutation is that of the other entries
-- with number `left`.
pub record BeginsWith (xs : List ℕ) (n x m : ℕ) (Rest : List ℕ → ℕ → Type 0) : Type 0 where
  pub place : ℕ
  pub left : ℕ
  pub entry : slice_get xs place ≡ Some x
  pub number : n ≡ place * factorial m + left
  pub low : left < factorial m
  pub goes_on : Rest (remove xs place) left

-- p is the permutation with number n of the entries of a list; if the list is in rising order, the numbers follow
-- lexicographic order
abbrev pub IsPermutation : List ℕ → ℕ → List ℕ → Type 0
IsPermutation xs n [] = (xs ≡ []) × (n ≡ 0)
IsPermutation xs n (x ∷ p) = BeginsWith xs n x (length p) (λ ys m. IsPermutation ys m p)

-- lexicographic order: at the first place where the two lists differ, the first has the lesser entry
abbrev pub ComesBefore : List ℕ → List ℕ → Type 0
ComesBefore (x ∷ p) (y ∷ q) = (x < y) ⊎ ((x ≡ y) × ComesBefore p q)
ComesBefore _ _ = ⊥
