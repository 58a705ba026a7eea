use Rattle.std.proofs.Common.{suc}
use Rattle.bn_quad.specs.Kept.{rules_of}
use Rattle.bn_quad.proofs.SearchLemmas.{HasNoPartnerBefore}
use Rattle.bn_quad.proofs.search.first_partner.Given as goal

abbrev pub invariant-loop-index : goal.invariant-loop-index
invariant-loop-index l = HasNoPartnerBefore l.clash (rules_of l.quads) l.fn.i (suc l.index)
