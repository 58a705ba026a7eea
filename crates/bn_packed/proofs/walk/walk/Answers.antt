use Rattle.std.proofs.Common.{inl, inr}
use Rattle.bn_packed.proofs.StepLemmas.{no_stop}
use Rattle.bn_packed.proofs.walk.walk.Goals as goal

pub returns-clause-ended : goal.returns-clause-ended
returns-clause-ended g c fewer = elim (c.walk_until.ensures.ended fewer)
    [ inl stuck ↦ stuck | inr stop ↦ absurd (no_stop c.walk_until.result.place stop) ]
