use Rattle.std.proofs.Common.{drop}
use Rattle.bn_reply_relations.specs.RunText.{cells_text}
use Rattle.bn_reply.proofs.FrontLemmas.{CameSoFar}
use Rattle.bn_reply_boards.proofs.tape_text.push_cells.Given as goal

abbrev pub invariant-loop-cell : goal.invariant-loop-cell
invariant-loop-cell l =
    CameSoFar l.initial.text.items l.text.items (cells_text l.table l.tape l.cells)
    (cells_text l.table l.tape (drop l.cell-index l.cells))
