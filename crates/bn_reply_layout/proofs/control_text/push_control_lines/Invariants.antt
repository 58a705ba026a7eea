use Rattle.std.proofs.Common.{◌≡◌, ◌++◌}
use Rattle.std.specs.List.{flat_map, range_with_len}
use Rattle.bn_bennett_laws.specs.List.{symbols_of}
use Rattle.bn_reply_layout.specs.ControlText.{control_line_line}
use Rattle.bn_reply_layout.proofs.control_text.push_control_lines.Given as goal

abbrev pub invariant-loop-line : goal.invariant-loop-line
invariant-loop-line l = l.text.items ≡ l.initial.text.items ++ flat_map (control_line_line (symbols_of l.table.machine))
    (range_with_len 0 l.line)
