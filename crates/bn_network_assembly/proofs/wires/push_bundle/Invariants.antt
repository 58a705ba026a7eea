use Rattle.std.proofs.Common.{◌≡◌, ◌++◌}
use Rattle.bn_network_assembly.specs.WireLists.{bundle}
use Rattle.bn_network_assembly.proofs.wires.push_bundle.Given as goal

abbrev pub invariant-loop-number : goal.invariant-loop-number
invariant-loop-number l = l.wires.items ≡ l.fn.wires.items ++ bundle l.from.element l.from.line l.to.element l.to.line
    l.number
