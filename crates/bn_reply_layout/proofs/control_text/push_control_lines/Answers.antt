use Rattle.std.proofs.Common.{◌≡◌, ◌++◌, ap, ◌∙◌, arith}
use Rattle.std.specs.List.{flat_map, range_with_len}
use Rattle.bn_bennett_laws.specs.List.{symbols_of}
use Rattle.bn_network.specs.Controls.{lines_before}
use Rattle.bn_reply_layout.specs.ControlText.{control_line_line}
use Rattle.bn_reply_layout.proofs.RowLemmas.{no_line, line_more}
use Rattle.bn_reply_layout.proofs.control_text.push_control_lines.Goals as goal

pub loop-line-init : goal.loop-line-init
loop-line-init c = no_line (control_line_line (symbols_of c.args.table.now.machine)) c.args.text.now.items

pub loop-line-preserved : goal.loop-line-preserved
loop-line-preserved c =
    line_more (control_line_line (symbols_of c.args.table.now.machine)) c.loop-line.line c.args.text.now.items
    c.loop-line.text.items c.push_line.new.text.items c.loop-line.invariant c.in_ok-push_line.ensures

pub returns : goal.returns
returns c =
    let letters = c.letters_of-letters.ensures.number in
    let history = c.history_of-history.ensures.number in
    let end : c.loop-line.line ≡ lines_before (symbols_of c.args.table.now.machine) 3 = omega arith in
    c.loop-line.invariant ∙ ap (λ n. c.args.text.now.items ++ flat_map
    (control_line_line (symbols_of c.args.table.now.machine)) (range_with_len 0 n)) end
