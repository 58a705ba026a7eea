use Rattle.std.proofs.Common.{suc}
use Rattle.bn_machine.specs.Machine.{IsInRange}
use Rattle.bn_lists.specs.Lists.{AllBefore}
use Rattle.bn_machine.proofs.machine.first_fault.Given as goal

abbrev pub invariant-loop-index : goal.invariant-loop-index
invariant-loop-index l = AllBefore (IsInRange l.states l.symbols) l.quints (suc l.index)
