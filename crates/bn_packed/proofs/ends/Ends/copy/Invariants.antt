use Rattle.std.proofs.Common.{◌≡◌, take}
use Rattle.bn_packed.proofs.ends.Ends.copy.Given as goal

abbrev pub invariant-loop-cell : goal.invariant-loop-cell
invariant-loop-cell g l = l.cells.items ≡ take l.cell-index l.cell-items
