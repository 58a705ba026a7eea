use Rattle.std.proofs.Common.{suc}
use Rattle.bn_machine.specs.Search.{NoneBefore}
use Rattle.bn_standardise.proofs.AcceptLemmas.{Leaves}
use Rattle.bn_standardise.proofs.acceptance.first_halting.Given as goal

abbrev pub invariant-loop-index : goal.invariant-loop-index
invariant-loop-index l = NoneBefore (Leaves l.quints) l.quints (suc l.index)
