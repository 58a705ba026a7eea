use Rattle.std.proofs.Common.{suc, arith, refl, add-one}
use Rattle.std.proofs.lemmas.Bool.{false≢true}
use Rattle.bn_machine.proofs.MachineLemmas.{first_match_at, no_match}
use Rattle.bn_lists.proofs.ListLemmas.{nth-get_or, all_before_more}
use Rattle.bn_machine.proofs.matching.first_match.Goals as goal

pub returns-then-is_match : goal.returns-then-is_match
returns-then-is_match c = (
  suc c.loop-quint.quint-index,
  first_match_at _ _ _ (suc c.loop-quint.quint-index) _ c.loop-quint.invariant
      (nth-get_or _ c.loop-quint.quint-index _ c.loop-quint-test.true) (c.if-is_match.ensures.0 refl),
)

pub loop-quint-preserved : goal.loop-quint-preserved
loop-quint-preserved c =
    rw add-one (all_before_more _ _ (suc c.loop-quint.quint-index) _ c.loop-quint.invariant
    (nth-get_or _ c.loop-quint.quint-index _ c.loop-quint-test.true)
    (λ matches. false≢true (c.if-is_match.ensures.1 matches)))

pub returns : goal.returns
returns c = no_match _ _ _ (suc c.loop-quint.quint-index) (omega arith) c.loop-quint.invariant
