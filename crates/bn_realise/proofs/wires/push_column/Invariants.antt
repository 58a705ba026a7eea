use Rattle.std.proofs.Common.{◌≤◌, ◌+◌, ◌*◌, length}
use Rattle.bn_circuits.specs.Wirings.{AreWiresOf}
use Rattle.bn_realise.specs.BankWires.{IsStage}
use Rattle.bn_realise.proofs.wires.push_column.Given as goal

abbrev pub invariant-loop-row : goal.invariant-loop-row
invariant-loop-row g l =
    AreWiresOf (IsStage l.first (g.E.Element.table l.machine) l.column l.row) l.wires.items
    × (length l.wires.items ≤ length l.fn.wires.items + (2 * l.rows + 3) + 2 * l.row)
