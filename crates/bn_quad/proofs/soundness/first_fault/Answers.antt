use Rattle.std.proofs.Common.{suc, arith, refl, add-one}
use Rattle.std.proofs.lemmas.Bool.{false≢true}
use Rattle.bn_lists.proofs.ListLemmas.{nth-get_or, all_before_more, all_from_before}
use Rattle.bn_quad.proofs.KeptLemmas.{first_fault_at}
use Rattle.bn_quad.proofs.soundness.first_fault.Goals as goal

pub returns-then-not-is_sound-clause-fault : goal.returns-then-not-is_sound-clause-fault
returns-then-not-is_sound-clause-fault c = first_fault_at _ _ _ c.loop-index.index _ c.loop-index-test.true
    c.loop-index.invariant (λ sound. false≢true (c.if-not-is_sound.ensures.1 sound))

pub loop-index-preserved : goal.loop-index-preserved
loop-index-preserved c =
    rw add-one (all_before_more _ _ (suc c.loop-index.index) _ c.loop-index.invariant
    (nth-get_or _ c.loop-index.index _ c.loop-index-test.true) (c.if-not-is_sound.ensures.0 refl))

pub returns-clause-none : goal.returns-clause-none
returns-clause-none c = all_from_before _ _ (suc c.loop-index.index) (omega arith) c.loop-index.invariant
