-- Reversible elements with one bit of memory, k input ports and k output ports (Morita 2017, where each has a number):
-- one-to-one functions of the 2k pairs of a state and a port. Pairs are numbered in rising order: pair j is port j % k
-- in state j / k.
use Rattle.std.specs.Prelude.{◌≡◌, ℕ, ◌+◌, ◌*◌, ◌/◌, ◌%◌, ◌≤◌, List, [], ◌∷◌}
use Rattle.std.specs.List.{range_with_len}
use Rattle.bn_rsm.specs.declared.rsm_move.RsmMove.{RsmMove}
use Rattle.bn_rlem.specs.Permutations.{IsPermutation}
use Rattle.bn_rlem.specs.declared.element.TheConstants.{MOST_LINES}

-- an element has this many ports
pub record IsLineCount (k : ℕ) : Type 0 where
  pub some : 1 ≤ k
  pub few : k ≤ MOST_LINES

-- the moves from pair j on: each pair leads to the pair with the number that the list has for it
abbrev pub moves_from : ℕ → ℕ → List ℕ → List RsmMove
moves_from k j [] = []
moves_from k j (x ∷ p) =
    record { state = j / k; line = j % k; next = x / k; out = x % k } ∷ moves_from k (j + 1) p

-- the moves of the element with k ports and number n, which is given by the n-th permutation of its pairs
pub record IsElement (k n : ℕ) (moves : List RsmMove) : Type 0 where
  pub pairs : List ℕ
  pub permutation : IsPermutation (range_with_len 0 (2 * k)) n pairs
  pub moves_are : moves ≡ moves_from k 0 pairs
