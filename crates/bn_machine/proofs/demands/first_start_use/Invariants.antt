use Rattle.std.proofs.Common.{suc}
use Rattle.bn_machine.specs.Machine.{start_of}
use Rattle.bn_machine.specs.Standard.{NamesStart}
use Rattle.bn_machine.specs.Search.{NoneBefore}
use Rattle.bn_machine.proofs.demands.first_start_use.Given as goal

abbrev pub invariant-loop-index : goal.invariant-loop-index
invariant-loop-index l = NoneBefore (NamesStart (start_of l.quints)) l.quints (suc l.index)
