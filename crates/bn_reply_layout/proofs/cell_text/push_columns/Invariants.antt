use Rattle.std.proofs.Common.{◌≡◌, ◌++◌}
use Rattle.std.specs.List.{flat_map, range_with_len}
use Rattle.bn_reply_layout.specs.CellText.{cell_column_line}
use Rattle.bn_reply_layout.proofs.cell_text.push_columns.Given as goal

abbrev pub invariant-loop-column : goal.invariant-loop-column
invariant-loop-column l = l.text.items ≡ l.initial.text.items
    ++ flat_map (cell_column_line l.table l.tape l.symbols) (range_with_len 0 l.column)
