use Rattle.std.proofs.Common.{◌+◌, ◌∷◌, [], None, drop, get_or, refl}
use Rattle.bn_quad.specs.Names.{symbols_on}
use Rattle.bn_reply_builds.specs.DriveText.{drive_cells_text}
use Rattle.bn_reply.proofs.FrontLemmas.{all_came, if_refused, more_came, part_came}
use Rattle.bn_reply_builds.proofs.CellLemmas.{cells_on, none_left}
use Rattle.bn_reply_builds.proofs.outcome_text.push_cells.Goals as goal

pub loop-cell-preserved : goal.loop-cell-preserved
loop-cell-preserved c =
    let cells = c.args.cells.now in
    let names = symbols_on c.args.names.now.names.now c.args.tape in
    let k = c.loop-cell.cell-index in
    let cell = get_or cells k None in
    more_came c.args.text.now.items c.loop-cell.text.items c.push_cell.new.text.items
    (drive_cells_text names cells) (drive_cells_text names (cell ∷ []))
    (drive_cells_text names (drop (k + 1) cells)) (drive_cells_text names (drop k cells))
    c.loop-cell.invariant (cells_on names cells k None cell c.loop-cell-test.true refl)
    c.in_ok-push_cell.ensures.added

pub returns-clause-added : goal.returns-clause-added
returns-clause-added c =
    let cells = c.args.cells.now in
    let names = symbols_on c.args.names.now.names.now c.args.tape in
    let k = c.loop-cell.cell-index in
    all_came c.args.text.now.items c.loop-cell.text.items
    (drive_cells_text names cells) (drive_cells_text names (drop k cells)) c.loop-cell.invariant
    (none_left names cells k c.loop-cell-test.false)

pub returns-in_err-push_cell-clause-refused : goal.returns-in_err-push_cell-clause-refused
returns-in_err-push_cell-clause-refused c =
    let cells = c.args.cells.now in
    let names = symbols_on c.args.names.now.names.now c.args.tape in
    let k = c.loop-cell.cell-index in
    let cell = get_or cells k None in
    if_refused c.from_residual.result (part_came c.args.text.now.items c.loop-cell.text.items
    c.push_cell.new.text.items (drive_cells_text names cells) (drive_cells_text names (cell ∷ []))
    (drive_cells_text names (drop (k + 1) cells)) (drive_cells_text names (drop k cells))
    c.loop-cell.invariant (cells_on names cells k None cell c.loop-cell-test.true refl)
    c.in_err-push_cell.ensures.refused)
