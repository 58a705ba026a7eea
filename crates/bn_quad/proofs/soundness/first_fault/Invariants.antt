use Rattle.std.proofs.Common.{suc}
use Rattle.bn_lists.specs.Lists.{AllBefore}
use Rattle.bn_quad.specs.Kept.{IsSound}
use Rattle.bn_quad.proofs.soundness.first_fault.Given as goal

abbrev pub invariant-loop-index : goal.invariant-loop-index
invariant-loop-index l = AllBefore (IsSound l.states l.symbols) l.quads (suc l.index)
