use Rattle.std.proofs.Common.{ap}
use Rattle.bn_packed.specs.Ways.{Ways}
use Rattle.bn_packed.proofs.KeptLemmas.{kept-IsCircuit}
use Rattle.bn_packed.proofs.wiring.Wiring.len.Goals as goal

pub returns-clause-circuit : goal.returns-clause-circuit
returns-clause-circuit g c =
    kept-IsCircuit c.self.inside.ahead c.args.self.now.net c.self.invariant.0 (ap (λ (w : Ways). w.net) c.self.view_is)
