-- The entries so far, and behind them the permutation of those that are left.
use Rattle.std.proofs.Common.{◌≡◌, ◌+◌, ◌<◌, ◌++◌, List, ℕ, length}
use Rattle.std.specs.List.{range_with_len}
use Rattle.bn_rlem.specs.Permutations.{IsPermutation, factorial}
use Rattle.bn_rlem.proofs.permutation.permutation.Given as goal

abbrev pub invariant-loop-done : goal.invariant-loop-done
invariant-loop-done l = record {
  count : length l.left.items + l.done ≡ l.count;
  low : l.rest < factorial (length l.left.items);
  goes_on : (p : List ℕ) → IsPermutation l.left.items l.rest p
      → IsPermutation (range_with_len 0 l.count) l.number (l.entries.items ++ p);
}
