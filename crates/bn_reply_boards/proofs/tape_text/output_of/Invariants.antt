use Rattle.std.proofs.Common.{◌≡◌, ◌++◌, drop}
use Rattle.bn_reply_relations.specs.RunText.{output_from}
use Rattle.bn_reply_boards.proofs.tape_text.output_of.Given as goal

abbrev pub invariant-loop-cell : goal.invariant-loop-cell
invariant-loop-cell l = output_from l.cells ≡ l.output.items ++ output_from (drop l.cell-index l.cells)
