use Rattle.std.proofs.Common.{ap, ◌∙◌}
use Rattle.bn_packed.specs.Ways.{Ways}
use Rattle.bn_packed.proofs.BehindLemmas.{way_back-IsWiring}
use Rattle.bn_packed.proofs.BlockLemmas.{behind-HasEnds}
use Rattle.bn_packed.proofs.KeptLemmas.{kept-IsCircuit, kept_few}
use Rattle.bn_packed.proofs.wiring.Wiring.behind.Goals as goal

pub returns-clause-ends : goal.returns-clause-ends
returns-clause-ends g c =
    behind-HasEnds g.C.Cell.tells c.self.inside.ahead c.self.inside.behind c.args.self.now.net c.as_slice.result.now
    (way_back-IsWiring c.self.inside.room _ _ (ap (λ (w : Ways). w.goes_back) c.self.view_is ∙ c.requires)
    c.self.invariant.1)
    (ap (λ (w : Ways). w.net) c.self.view_is) c.as_slice.ensures.ends c.as_slice.ensures.whole

pub returns-clause-circuit : goal.returns-clause-circuit
returns-clause-circuit g c =
    kept-IsCircuit c.self.inside.ahead c.args.self.now.net c.self.invariant.0 (ap (λ (w : Ways). w.net) c.self.view_is)

pub returns-clause-few : goal.returns-clause-few
returns-clause-few g c =
    kept_few c.self.inside.ahead c.args.self.now.net c.self.invariant.0 (ap (λ (w : Ways). w.net) c.self.view_is)
