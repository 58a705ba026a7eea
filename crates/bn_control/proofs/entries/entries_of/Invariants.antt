use Rattle.bn_control.proofs.EntriesSoFar.{AreSoFar}
use Rattle.bn_control.proofs.entries.entries_of.Given as goal

abbrev pub invariant-loop-index : goal.invariant-loop-index
invariant-loop-index l = AreSoFar l.machine l.index l.entries.items
