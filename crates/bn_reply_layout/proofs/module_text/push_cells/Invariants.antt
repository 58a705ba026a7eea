use Rattle.std.proofs.Common.{◌≡◌, ◌++◌}
use Rattle.std.specs.List.{flat_map, range_with_len}
use Rattle.bn_reply_layout.specs.Modules.{cell_bank}
use Rattle.bn_reply_layout.specs.ModuleText.{module_line}
use Rattle.bn_reply_layout.proofs.module_text.push_cells.Given as goal

abbrev pub invariant-loop-cell : goal.invariant-loop-cell
invariant-loop-cell l =
    l.text.items ≡ l.initial.text.items
    ++ flat_map (λ j. module_line (cell_bank l.row.tape l.row.symbols l.row.left l.row.number l.row.first j))
    (range_with_len 0 l.cell)
