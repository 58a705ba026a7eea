use Rattle.std.proofs.Common.{◌+◌, ◌∷◌, [], None, drop, get_or, refl}
use Rattle.bn_reply_relations.specs.RunText.{cells_text}
use Rattle.bn_reply.proofs.FrontLemmas.{all_came, if_refused, more_came, part_came}
use Rattle.bn_reply_boards.proofs.CellTextLemmas.{cells_on, none_left}
use Rattle.bn_reply_boards.proofs.tape_text.push_cells.Goals as goal

pub push_cell-requires : goal.push_cell-requires
push_cell-requires c = c.requires c.loop-cell.cell-index None c.loop-cell-test.true

pub loop-cell-preserved : goal.loop-cell-preserved
loop-cell-preserved c =
    let table = c.args.table.now in
    let tape = c.args.tape in
    let cells = c.args.cells.now in
    let k = c.loop-cell.cell-index in
    let cell = get_or cells k None in
    more_came c.args.text.now.items c.loop-cell.text.items c.push_cell.new.text.items
    (cells_text table tape cells) (cells_text table tape (cell ∷ []))
    (cells_text table tape (drop (k + 1) cells)) (cells_text table tape (drop k cells))
    c.loop-cell.invariant (cells_on table tape cells k None cell c.loop-cell-test.true refl)
    c.in_ok-push_cell.ensures.added

pub returns-clause-added : goal.returns-clause-added
returns-clause-added c =
    let table = c.args.table.now in
    let tape = c.args.tape in
    let cells = c.args.cells.now in
    let k = c.loop-cell.cell-index in
    all_came c.args.text.now.items c.loop-cell.text.items
    (cells_text table tape cells) (cells_text table tape (drop k cells)) c.loop-cell.invariant
    (none_left table tape cells k c.loop-cell-test.false)

pub returns-in_err-push_cell-clause-refused : goal.returns-in_err-push_cell-clause-refused
returns-in_err-push_cell-clause-refused c =
    let table = c.args.table.now in
    let tape = c.args.tape in
    let cells = c.args.cells.now in
    let k = c.loop-cell.cell-index in
    let cell = get_or cells k None in
    if_refused c.from_residual.result (part_came c.args.text.now.items c.loop-cell.text.items
    c.push_cell.new.text.items (cells_text table tape cells) (cells_text table tape (cell ∷ []))
    (cells_text table tape (drop (k + 1) cells)) (cells_text table tape (drop k cells))
    c.loop-cell.invariant (cells_on table tape cells k None cell c.loop-cell-test.true refl)
    c.in_err-push_cell.ensures.refused)
