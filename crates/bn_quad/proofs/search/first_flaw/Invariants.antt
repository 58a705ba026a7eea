use Rattle.std.proofs.Common.{suc}
use Rattle.bn_quad.specs.Kept.{rules_of}
use Rattle.bn_quad.proofs.SearchLemmas.{HasNoFlawBefore}
use Rattle.bn_quad.proofs.search.first_flaw.Given as goal

abbrev pub invariant-loop-index : goal.invariant-loop-index
invariant-loop-index l = HasNoFlawBefore l.flaw (rules_of l.quads) (suc l.index)
