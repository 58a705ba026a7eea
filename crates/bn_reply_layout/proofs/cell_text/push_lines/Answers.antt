use Rattle.std.proofs.Common.{◌≡◌, ◌++◌, ap, ◌∙◌, arith}
use Rattle.std.specs.List.{flat_map, range_with_len}
use Rattle.bn_network.specs.Cells.{cell_line_count}
use Rattle.bn_reply_layout.specs.CellText.{cell_line_line}
use Rattle.bn_reply_layout.proofs.RowLemmas.{no_line, line_more}
use Rattle.bn_reply_layout.proofs.cell_text.push_lines.Goals as goal

pub loop-line-init : goal.loop-line-init
loop-line-init c = no_line (cell_line_line c.args.tape c.args.symbols) c.args.text.now.items

pub loop-line-preserved : goal.loop-line-preserved
loop-line-preserved c =
    line_more (cell_line_line c.args.tape c.args.symbols) c.loop-line.line c.args.text.now.items c.loop-line.text.items
    c.push_line.new.text.items c.loop-line.invariant c.in_ok-push_line.ensures

pub returns : goal.returns
returns c =
    let end : c.loop-line.line ≡ cell_line_count c.args.symbols = omega arith in
    c.loop-line.invariant ∙ ap (λ n. c.args.text.now.items ++ flat_map (cell_line_line c.args.tape c.args.symbols)
    (range_with_len 0 n)) end
