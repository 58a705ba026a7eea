use Rattle.std.proofs.Common.{suc, arith}
use Rattle.bn_lists.proofs.ListLemmas.{all_from_before}
use Rattle.bn_machine.proofs.machine.first_fault.Goals as goal

pub returns-clause-none : goal.returns-clause-none
returns-clause-none c = all_from_before _ _ (suc c.loop-index.index) (omega arith) c.loop-index.invariant
