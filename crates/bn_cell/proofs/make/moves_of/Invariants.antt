use Rattle.std.proofs.Common.{◌≡◌}
use Rattle.bn_network.specs.Cells.{cell_table}
use Rattle.bn_cell.specs.Rows.{rows}
use Rattle.bn_cell.proofs.make.moves_of.Given as goal

abbrev pub invariant-loop-state : goal.invariant-loop-state
invariant-loop-state l = l.moves.items ≡ rows (cell_table l.cell.symbols) l.state
