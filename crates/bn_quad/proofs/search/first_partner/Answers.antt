use Rattle.std.proofs.Common.{suc, arith, add-one, refl}
use Rattle.std.proofs.lemmas.Bool.{false≢true}
use Rattle.bn_quad.proofs.KeptLemmas.{nth-rules_of, nth-rules_of_back, length-rules_of}
use Rattle.bn_quad.proofs.SearchLemmas.{least_partner, no_partner_more, no_partner}
use Rattle.bn_quad.proofs.search.first_partner.Goals as goal

pub returns-then-is_clash : goal.returns-then-is_clash
returns-then-is_clash c =
    rw add-one (least_partner _ _ _ (suc c.loop-index.index) _ _ (omega (arith, c.loop-index.auto.index))
    c.loop-index.invariant (nth-rules_of_back _ _ _ c.requires.starts c.requires.inside)
    (nth-rules_of _ c.loop-index.index _ c.loop-index-test.true) (c.if-is_clash.ensures.0 refl))

pub loop-index-preserved : goal.loop-index-preserved
loop-index-preserved c =
    rw add-one (no_partner_more _ _ _ (suc c.loop-index.index) _ _ c.loop-index.invariant
    (nth-rules_of_back _ _ _ c.requires.starts c.requires.inside)
    (nth-rules_of _ c.loop-index.index _ c.loop-index-test.true)
    (λ clashes. false≢true (c.if-is_clash.ensures.1 clashes)))

pub returns : goal.returns
returns c = no_partner _ _ _ (suc c.loop-index.index) (omega (arith, length-rules_of c.args.quads.now))
    c.loop-index.invariant
