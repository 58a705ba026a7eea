use Rattle.std.proofs.Common.{suc, arith, refl, add-one}
use Rattle.std.proofs.lemmas.Bool.{false≢true}
use Rattle.bn_machine.proofs.MachineLemmas.{first_match_at, no_match}
use Rattle.bn_lists.proofs.ListLemmas.{nth-get_or, all_before_more, all_before_one}
use Rattle.bn_reply_traces.proofs.stage.first_rule.Goals as goal

pub loop-index-init : goal.loop-index-init
loop-index-init c = all_before_one _ _

pub returns-then-is_match : goal.returns-then-is_match
returns-then-is_match c =
    rw add-one (
      _,
      first_match_at _ _ _ (suc c.loop-index.index) _ c.loop-index.invariant
          (nth-get_or _ c.loop-index.index _ c.loop-index-test.true) (c.if-is_match.ensures.0 refl),
    )

pub loop-index-preserved : goal.loop-index-preserved
loop-index-preserved c =
    rw add-one (all_before_more _ _ (suc c.loop-index.index) _ c.loop-index.invariant
    (nth-get_or _ c.loop-index.index _ c.loop-index-test.true)
    (λ matches. false≢true (c.if-is_match.ensures.1 matches)))

pub returns : goal.returns
returns c = no_match _ _ _ (suc c.loop-index.index) (omega arith) c.loop-index.invariant
