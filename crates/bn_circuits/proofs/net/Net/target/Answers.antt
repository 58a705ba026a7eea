use Rattle.std.proofs.Common.{sym, ap, ◌∙◌}
use Rattle.bn_circuits.specs.Circuits.{target}
use Rattle.bn_circuits.specs.Parts.{Parts}
use Rattle.bn_circuits.proofs.WireLemmas.{target-wires, view-IsCircuit}
use Rattle.bn_circuits.proofs.OrderLemmas.{view-AreInOrder}
use Rattle.bn_circuits.proofs.net.Net.target.Goals as goal

pub returns-clause-line : goal.returns-clause-line
returns-clause-line g c = c.get.ensures ∙ sym (target-wires c.self.inside.targets c.args.from)
    ∙ ap (λ (n : Parts _). target n.wires c.args.from) c.self.view_is

pub returns-clause-circuit : goal.returns-clause-circuit
returns-clause-circuit g c = view-IsCircuit g.E.Element.table g.met.E.Element.reversible c.self.inside.elements.items
    c.self.inside.targets c.self.inside.sources c.args.self.now c.self.invariant c.self.view_is

pub returns-clause-order : goal.returns-clause-order
returns-clause-order g c = view-AreInOrder c.self.inside.elements.items c.self.inside.targets c.args.self.now
    c.self.view_is
