use Rattle.std.proofs.Common.{◌≡◌, map}
use Rattle.bn_circuits.specs.Circuits.{IsCircuit}
use Rattle.bn_circuits.specs.Parts.{circuit}
use Rattle.bn_circuits.proofs.FaultLemmas.{IsBuilt}
use Rattle.bn_circuits.proofs.net.Net.try_new.Given as goal

abbrev pub invariant-loop-index : goal.invariant-loop-index
invariant-loop-index g l = (l.net.elements ≡ l.fn.elements.items)
    × IsBuilt (map g.E.Element.table l.fn.elements.items) l.wires l.net.wires l.index
    × IsCircuit (circuit g.E.Element.table l.net)
