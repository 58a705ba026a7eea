use Rattle.std.proofs.Common.{◌≡◌, ◌++◌, drop, map}
use Rattle.bn_control.specs.Names.{state_of}
use Rattle.bn_reply_layout.specs.ControlText.{column_lines}
use Rattle.bn_reply_layout.proofs.control_text.push_columns.Given as goal

abbrev pub invariant-loop-column : goal.invariant-loop-column
invariant-loop-column l =
    l.text.items ++ column_lines l.names.states l.column (map state_of (drop l.column l.states))
    ≡ l.initial.text.items ++ column_lines l.names.states 0 (map state_of l.states)
