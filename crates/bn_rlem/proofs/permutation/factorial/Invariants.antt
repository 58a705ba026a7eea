use Rattle.std.proofs.Common.{◌≡◌}
use Rattle.bn_rlem.specs.Permutations as numbers
use Rattle.bn_rlem.proofs.permutation.factorial.Given as goal

abbrev pub invariant-loop-factor : goal.invariant-loop-factor
invariant-loop-factor l = l.product ≡ numbers.factorial l.factor
