use Rattle.std.proofs.Common.{suc}
use Rattle.bn_lists.specs.Lists.{AllBefore}
use Rattle.bn_quad.specs.Quadruples.{AppliesTo}
use Rattle.bn_quad.specs.Calls.{configuration}
use Rattle.bn_quad.specs.Kept.{rules_of}
use Rattle.bn_quad.proofs.search.first_rule.Given as goal

abbrev pub invariant-loop-index : goal.invariant-loop-index
invariant-loop-index l = AllBefore (λ r. AppliesTo r (configuration l.state l.tapes) → ⊥) (rules_of l.quads)
    (suc l.index)
