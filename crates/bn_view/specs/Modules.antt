-- The module that holds the signal of a circuit, and the port by which the signal enters it (this project's own
-- definition).
use Rattle.std.specs.Prelude.{◌≡◌, ℕ, ℤ, Option, Some, None}
use Rattle.bn_circuits.specs.declared.place.Place.{Place}
use Rattle.bn_network.specs.Cells.{cell_line}
use Rattle.bn_boards.specs.Layouts.{Layout, symbol_count_at}
use Rattle.bn_board.specs.Locations.{IsLocated}
use Rattle.bn_board.specs.declared.located.Located.{Located}
use Rattle.bn_board.specs.declared.located.Located.TheVariants as located
use Rattle.bn_view.specs.declared.layers.ModuleAt.{ModuleAt}
use Rattle.bn_view.specs.declared.layers.ModuleAt.TheVariants.{ControlLine, ControlInside, CellLine}
use Rattle.bn_view.specs.declared.layers.ModuleAt.TheVariants.{CellInside, Outside}

-- in the control, or in the cell of a tape with z symbols, with the input port that the signal enters, if it enters one
abbrev pub in_control : Option ℕ → ModuleAt
in_control None = ControlInside
in_control (Some i) = ControlLine i

abbrev pub in_cell : ℕ → ℕ → ℤ → Option ℕ → ModuleAt
in_cell z tape position None = CellInside tape position
in_cell z tape position (Some i) = CellLine tape position (cell_line z i)

-- the module of a place in a circuit, with the ports of cells by their names
abbrev pub module_by : Layout → Located → ModuleAt
module_by b (located.Control line) = in_control line
module_by b (located.Cell tape position line) = in_cell (symbol_count_at b tape) tape position line
module_by b located.Outside = Outside

abbrev pub IsModuleAt : Layout → Place → ModuleAt → Type 0
IsModuleAt b p at = (l : Located) × IsLocated b p l × (at ≡ module_by b l)
