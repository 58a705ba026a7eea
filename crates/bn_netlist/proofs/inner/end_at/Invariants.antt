use Rattle.std.proofs.Common.{◌≡◌, false, take}
use Rattle.bn_circuits.specs.Circuits.{same_line}
use Rattle.bn_netlist_laws.specs.Faults.{some_wire}
use Rattle.bn_netlist.proofs.inner.end_at.Given as goal

abbrev pub invariant-loop-index : goal.invariant-loop-index
invariant-loop-index l = some_wire (λ w. same_line l.line w.to) (take l.index l.wires) ≡ false
