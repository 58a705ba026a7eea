-- The text of a circuit's layout (this project's own definition): a line for each module, for each column and each port
-- of the control, and for the columns and the ports that all cells of a tape have.
use Rattle.std.specs.Prelude.{ℕ, List, ◌++◌}
use Rattle.std.specs.List.{flat_map, range_with_len}
use Rattle.bn_table.specs.Rows.{Named}
use Rattle.bn_bennett.specs.Translation.{Translation}
use Rattle.bn_network.specs.Controls.{ControlState}
use Rattle.bn_boards.specs.Layouts.{Layout, lines_at}
use Rattle.bn_reply_layout.specs.ModuleText.{module_lines}
use Rattle.bn_reply_layout.specs.ControlText.{column_lines, control_line_line, state_names}
use Rattle.bn_reply_layout.specs.CellText.{tape_lines}

-- all lines, with these states of the control in their order
abbrev pub layout_text : Named → Translation → Layout → List ControlState → List ℕ
layout_text t m b states =
    module_lines b ++ (column_lines (state_names m) 0 states
    ++ (flat_map (control_line_line b.symbols) (range_with_len 0 (lines_at b)) ++ tape_lines t b.symbols))
