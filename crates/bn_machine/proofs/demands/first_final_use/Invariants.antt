use Rattle.std.proofs.Common.{suc, length}
use Rattle.bn_machine.specs.Machine.{final_of}
use Rattle.bn_machine.specs.Standard.{NamesFinal}
use Rattle.bn_machine.specs.Search.{NoneBefore}
use Rattle.bn_machine.proofs.demands.first_final_use.Given as goal

abbrev pub invariant-loop-index : goal.invariant-loop-index
invariant-loop-index l = NoneBefore (NamesFinal (final_of l.quints) (length l.quints)) l.quints (suc l.index)
