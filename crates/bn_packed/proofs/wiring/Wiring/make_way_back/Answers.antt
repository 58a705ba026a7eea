use Rattle.std.proofs.Common.{refl}
use Rattle.bn_packed.specs.Ends.{targets_by, net_of}
use Rattle.bn_packed.proofs.AcrossLemmas.{across-IsWiring}
use Rattle.bn_packed.proofs.KeptLemmas.{kept-IsCircuit}
use Rattle.bn_packed.proofs.ReversedLemmas.{reversed-IsWiring}
use Rattle.bn_packed.proofs.wiring.Wiring.make_way_back.Goals as goal

pub invariant_of-self : goal.invariant_of-self
invariant_of-self g c = (
  c.self.invariant.0,
  rw c.take.ensures.after (across-IsWiring c.self.inside.ahead c.inverse_in.result
      (reversed-IsWiring c.self.inside.ahead c.inverse_in.result c.self.invariant.0 c.inverse_in.ensures.elements
      c.inverse_in.ensures.ends)),
)

pub returns-in-Some-clause-circuit : goal.returns-in-Some-clause-circuit
returns-in-Some-clause-circuit g c =
    kept-IsCircuit c.self.inside.ahead (net_of (targets_by c.self.inside.ahead)) c.self.invariant.0 refl

pub returns-in_default-clause-circuit : goal.returns-in_default-clause-circuit
returns-in_default-clause-circuit g c =
    kept-IsCircuit c.self.inside.ahead (net_of (targets_by c.self.inside.ahead)) c.self.invariant.0 refl
