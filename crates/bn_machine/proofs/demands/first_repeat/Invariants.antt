use Rattle.std.proofs.Common.{suc}
use Rattle.bn_machine.proofs.SearchLemmas.{NoneRepeated}
use Rattle.bn_machine.proofs.demands.first_repeat.Given as goal

abbrev pub invariant-loop-index : goal.invariant-loop-index
invariant-loop-index l = NoneRepeated l.quints (suc l.index)
