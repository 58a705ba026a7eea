use Rattle.std.proofs.Common.{suc, arith, add-one, refl}
use Rattle.std.proofs.lemmas.Bool.{false≢true}
use Rattle.bn_quad.proofs.KeptLemmas.{nth-rules_of, length-rules_of}
use Rattle.bn_quad.proofs.SearchLemmas.{first_flaw, no_flaw_more, no_flaw}
use Rattle.bn_quad.proofs.search.first_flaw.Goals as goal

pub returns-then-is_flawed : goal.returns-then-is_flawed
returns-then-is_flawed c =
    rw add-one (first_flaw _ _ (suc c.loop-index.index) _ c.loop-index.invariant
    (nth-rules_of _ c.loop-index.index _ c.loop-index-test.true) (c.if-is_flawed.ensures.0 refl))

pub loop-index-preserved : goal.loop-index-preserved
loop-index-preserved c =
    rw add-one (no_flaw_more _ _ (suc c.loop-index.index) _ c.loop-index.invariant
    (nth-rules_of _ c.loop-index.index _ c.loop-index-test.true)
    (λ flawed. false≢true (c.if-is_flawed.ensures.1 flawed)))

pub returns : goal.returns
returns c = no_flaw _ _ (suc c.loop-index.index) (omega (arith, length-rules_of c.args.quads.now))
    c.loop-index.invariant
