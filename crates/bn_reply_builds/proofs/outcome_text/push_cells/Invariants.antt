use Rattle.std.proofs.Common.{drop}
use Rattle.bn_quad.specs.Names.{symbols_on}
use Rattle.bn_reply_builds.specs.DriveText.{drive_cells_text}
use Rattle.bn_reply.proofs.FrontLemmas.{CameSoFar}
use Rattle.bn_reply_builds.proofs.outcome_text.push_cells.Given as goal

abbrev pub invariant-loop-cell : goal.invariant-loop-cell
invariant-loop-cell l =
    CameSoFar l.initial.text.items l.text.items (drive_cells_text (symbols_on l.names.names.now l.tape) l.cells)
    (drive_cells_text (symbols_on l.names.names.now l.tape) (drop l.cell-index l.cells))
