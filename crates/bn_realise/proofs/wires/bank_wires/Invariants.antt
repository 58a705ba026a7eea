use Rattle.std.proofs.Common.{◌≤◌, ◌+◌, ◌*◌, length}
use Rattle.bn_circuits.specs.Wirings.{AreWiresOf}
use Rattle.bn_realise.specs.BankWires.{IsEarlier}
use Rattle.bn_realise.proofs.wires.bank_wires.Given as goal

abbrev pub invariant-loop-column : goal.invariant-loop-column
invariant-loop-column g l =
    AreWiresOf (IsEarlier l.first (g.E.Element.table l.machine) l.column) l.wires.items
    × (length l.wires.items ≤ l.column * (4 * (g.E.Element.table l.machine).inputs + 3))
