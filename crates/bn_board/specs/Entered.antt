-- The input ports of a circuit's banks, by its layout.
use Rattle.std.specs.Prelude.{◌≡◌, ℕ, ◌*◌, ◌<◌}
use Rattle.bn_network.specs.Cells.{cell_line_count}
use Rattle.bn_network.specs.Networks.{IsTape, cells_in}
use Rattle.bn_boards.specs.Layouts.{Layout, symbol_count_at, lines_at, cell_element}
use Rattle.bn_leap.specs.declared.entry.Entry.{Entry}

-- the entry is an input port of the control, or of a cell
pub data IsEntryIn (b : Layout) (v : Entry) : Type 0 where
  of_control : v.first ≡ 0 → v.states ≡ b.states → v.lines ≡ lines_at b → v.row < v.lines → IsEntryIn b v
  of_cell : (t p : ℕ) → IsTape t → p < cells_in b.limits t → v.first ≡ cell_element b t p
      → v.states ≡ 2 * symbol_count_at b t → v.lines ≡ cell_line_count (symbol_count_at b t) → v.row < v.lines
      → IsEntryIn b v
