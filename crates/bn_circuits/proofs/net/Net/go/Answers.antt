use Rattle.bn_circuits.proofs.WireLemmas.{view-IsCircuit}
use Rattle.bn_circuits.proofs.net.Net.go.Goals as goal

pub returns-clause-circuit : goal.returns-clause-circuit
returns-clause-circuit g c = view-IsCircuit g.E.Element.table g.met.E.Element.reversible c.self.inside.elements.items
    c.self.inside.targets c.self.inside.sources c.args.self.now c.self.invariant c.self.view_is
