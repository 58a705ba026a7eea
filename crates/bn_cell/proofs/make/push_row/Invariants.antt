use Rattle.std.proofs.Common.{◌≡◌, ◌++◌}
use Rattle.bn_network.specs.Cells.{cell_table}
use Rattle.bn_cell.specs.Rows.{row}
use Rattle.bn_cell.proofs.make.push_row.Given as goal

abbrev pub invariant-loop-line : goal.invariant-loop-line
invariant-loop-line l = l.moves.items ≡ l.initial.moves.items ++ row (cell_table l.cell.symbols) l.fn.state l.line
