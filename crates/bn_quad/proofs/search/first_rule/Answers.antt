use Rattle.std.proofs.Common.{suc, arith, add-one, refl}
use Rattle.std.proofs.lemmas.Bool.{false≢true}
use Rattle.bn_lists.proofs.ListLemmas.{all_before_more}
use Rattle.bn_quad.proofs.KeptLemmas.{nth-rules_of, length-rules_of}
use Rattle.bn_quad.proofs.SearchLemmas.{first_rule_at, no_rule}
use Rattle.bn_quad.proofs.search.first_rule.Goals as goal

pub returns-then-applies-clause-first : goal.returns-then-applies-clause-first
returns-then-applies-clause-first c =
    rw add-one (first_rule_at _ _ (suc c.loop-index.index) _ c.loop-index.invariant
    (nth-rules_of _ c.loop-index.index _ c.loop-index-test.true) (c.if-applies.ensures.0 refl))

pub loop-index-preserved : goal.loop-index-preserved
loop-index-preserved c =
    rw add-one (all_before_more _ _ (suc c.loop-index.index) _ c.loop-index.invariant
    (nth-rules_of _ c.loop-index.index _ c.loop-index-test.true)
    (λ applies. false≢true (c.if-applies.ensures.1 applies)))

pub returns-clause-first : goal.returns-clause-first
returns-clause-first c = no_rule _ _ (suc c.loop-index.index) (omega (arith, length-rules_of c.args.quads.now))
    c.loop-index.invariant
