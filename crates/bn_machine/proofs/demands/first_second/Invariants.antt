use Rattle.std.proofs.Common.{suc}
use Rattle.bn_machine.specs.Standard.{Clashes}
use Rattle.bn_machine.specs.Search.{NoneBefore}
use Rattle.bn_machine.proofs.demands.first_second.Given as goal

abbrev pub invariant-loop-index : goal.invariant-loop-index
invariant-loop-index l = NoneBefore (Clashes l.i l.first) l.quints (suc l.index)
