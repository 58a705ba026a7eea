use Rattle.std.proofs.Common.{◌≡◌, ◌++◌}
use Rattle.std.specs.List.{flat_map, range_with_len}
use Rattle.bn_reply_layout.specs.CellText.{cell_line_line}
use Rattle.bn_reply_layout.proofs.cell_text.push_lines.Given as goal

abbrev pub invariant-loop-line : goal.invariant-loop-line
invariant-loop-line l = l.text.items ≡ l.initial.text.items ++ flat_map (cell_line_line l.tape l.symbols)
    (range_with_len 0 l.line)
