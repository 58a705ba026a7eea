use Rattle.std.proofs.Common.{◌≤◌, ◌+◌, length}
use Rattle.bn_circuits.specs.Wirings.{AreWiresOf}
use Rattle.bn_packed.specs.CopiedWires.{IsTargetBefore}
use Rattle.bn_packed.proofs.to_net.push_element.Given as goal

abbrev pub invariant-loop-line : goal.invariant-loop-line
invariant-loop-line l = record {
  wires_are : AreWiresOf (IsTargetBefore l.packed.net.wires l.fn.element l.line) l.wires.items;
  few : length l.wires.items ≤ length l.initial.wires.items + l.line;
}
