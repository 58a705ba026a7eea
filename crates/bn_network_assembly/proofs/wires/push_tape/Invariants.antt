use Rattle.std.proofs.Common.{◌≡◌, ◌++◌, ◌+◌}
use Rattle.bn_network_assembly.specs.WireLists.{bundle, joints}
use Rattle.bn_network_assembly.proofs.wires.push_tape.Given as goal

abbrev pub invariant-loop-cell : goal.invariant-loop-cell
invariant-loop-cell l =
    l.wires.items
    ≡ l.fn.wires.items
    ++ ((bundle 0 l.line l.first 0 (l.symbols + 3) ++ bundle l.first (l.symbols + 4) 0 l.line (l.symbols + 3))
    ++ joints l.first l.symbols l.cell)
