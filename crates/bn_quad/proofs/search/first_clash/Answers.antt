use Rattle.std.proofs.Common.{suc, ◌+◌, arith, add-one}
use Rattle.bn_quad.proofs.KeptLemmas.{length-rules_of}
use Rattle.bn_quad.proofs.SearchLemmas.{least_clash, no_clash_more, no_clash}
use Rattle.bn_quad.proofs.search.first_clash.Goals as goal

pub returns-in-Some : goal.returns-in-Some
returns-in-Some c = least_clash _ _ (c.loop-index.index + 1) _ (rw add-one c.loop-index.invariant) c.in-Some.ensures

pub loop-index-preserved : goal.loop-index-preserved
loop-index-preserved c = no_clash_more _ _ (c.loop-index.index + 1) (rw add-one c.loop-index.invariant)
    c.in_default.ensures

pub returns : goal.returns
returns c = no_clash _ _ (suc c.loop-index.index) (omega (arith, length-rules_of c.args.quads.now))
    c.loop-index.invariant
