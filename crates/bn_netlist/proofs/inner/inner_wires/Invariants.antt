use Rattle.std.proofs.Common.{◌≡◌}
use Rattle.bn_netlist_laws.specs.Columns.{rungs}
use Rattle.bn_netlist.proofs.inner.inner_wires.Given as goal

abbrev pub invariant-loop-row : goal.invariant-loop-row
invariant-loop-row l = l.wires.items ≡ rungs l.first l.row
