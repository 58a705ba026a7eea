use Rattle.bn_column.proofs.LadderLemmas.{IsLadder}
use Rattle.bn_column.proofs.wires.column_wires.Given as goal

abbrev pub invariant-loop-row : goal.invariant-loop-row
invariant-loop-row l = IsLadder l.first l.row l.wires.items
