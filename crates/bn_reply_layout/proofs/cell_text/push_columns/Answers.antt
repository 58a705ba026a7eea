use Rattle.std.proofs.Common.{◌≡◌, ◌*◌, ◌++◌, ap, ◌∙◌, arith}
use Rattle.std.specs.List.{flat_map, range_with_len}
use Rattle.bn_reply_layout.specs.CellText.{cell_column_line}
use Rattle.bn_reply_layout.proofs.RowLemmas.{no_line, line_more}
use Rattle.bn_reply_layout.proofs.cell_text.push_columns.Goals as goal

pub loop-column-init : goal.loop-column-init
loop-column-init c = no_line (cell_column_line c.args.table.now c.args.tape c.args.symbols) c.args.text.now.items

pub loop-column-preserved : goal.loop-column-preserved
loop-column-preserved c =
    line_more (cell_column_line c.args.table.now c.args.tape c.args.symbols) c.loop-column.column c.args.text.now.items
    c.loop-column.text.items c.push_column.new.text.items c.loop-column.invariant c.in_ok-push_column.ensures

pub returns : goal.returns
returns c =
    let end : c.loop-column.column ≡ 2 * c.args.symbols = omega arith in
    c.loop-column.invariant ∙ ap (λ n. c.args.text.now.items ++ flat_map
    (cell_column_line c.args.table.now c.args.tape c.args.symbols) (range_with_len 0 n)) end
