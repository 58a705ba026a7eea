use Rattle.std.proofs.Common.{◌≤◌, ◌*◌, length}
use Rattle.bn_circuits.specs.Wirings.{AreWiresOf}
use Rattle.bn_packed.specs.CopiedWires.{IsTargetBefore}
use Rattle.bn_packed.proofs.to_net.wires_of.Given as goal

abbrev pub invariant-loop-element : goal.invariant-loop-element
invariant-loop-element l = record {
  wires_are : AreWiresOf (IsTargetBefore l.packed.net.wires l.element 0) l.wires.items;
  few : length l.wires.items ≤ 4 * l.element;
}
