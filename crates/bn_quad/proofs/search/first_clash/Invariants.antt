use Rattle.std.proofs.Common.{suc}
use Rattle.bn_quad.specs.Kept.{rules_of}
use Rattle.bn_quad.proofs.SearchLemmas.{HasNoClashBefore}
use Rattle.bn_quad.proofs.search.first_clash.Given as goal

abbrev pub invariant-loop-index : goal.invariant-loop-index
invariant-loop-index l = HasNoClashBefore l.clash (rules_of l.quads) (suc l.index)
