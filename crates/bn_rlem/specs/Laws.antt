-- The laws of this crate, each a named field. `Laws` is the contract of `rlem_laws`.
use Rattle.std.specs.Prelude.{◌≡◌, ℕ, ◌*◌, ◌<◌, List, length}
use Rattle.std.specs.List.{AllPairs}
use Rattle.bn_rsm.specs.Machines.{AreSound}
use Rattle.bn_rsm.specs.declared.rsm_move.RsmMove.{RsmMove}
use Rattle.bn_rlem.specs.Permutations.{ComesBefore, IsPermutation, factorial}
use Rattle.bn_rlem.specs.Elements.{IsElement, IsLineCount}

-- each number below the factorial of the number of entries is that of exactly one permutation
abbrev pub PermutationsAreNumbered : Type 0
PermutationsAreNumbered =
    ((xs : List ℕ) (n : ℕ) → n < factorial (length xs) → (p : List ℕ) × IsPermutation xs n p)
    × ((xs : List ℕ) (n : ℕ) (p q : List ℕ) → IsPermutation xs n p → IsPermutation xs n q → p ≡ q)

-- of two permutations of a list in rising order, the one with the lesser number comes first in lexicographic order
abbrev pub PermutationsAreOrdered : Type 0
PermutationsAreOrdered =
    (xs : List ℕ) → AllPairs (λ x y. x < y) xs → (m n : ℕ) (p q : List ℕ) → IsPermutation xs m p
    → IsPermutation xs n q → m < n → ComesBefore p q

-- the moves of an element are those of a reversible sequential machine with two states
abbrev pub ElementsAreReversible : Type 0
ElementsAreReversible = (k n : ℕ) (moves : List RsmMove) → IsLineCount k → IsElement k n moves → AreSound 2 k moves

pub record Laws : Type 0 where
  -- Each number below the factorial of the number of entries is that of exactly one permutation.
  pub permutations_are_numbered : PermutationsAreNumbered
  -- The permutations of a list in rising order are numbered in lexicographic order.
  pub permutations_are_ordered : PermutationsAreOrdered
  -- A numbered element is a reversible sequential machine with two states.
  pub elements_are_reversible : ElementsAreReversible
