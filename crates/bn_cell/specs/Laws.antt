-- Laws on cells.
use Rattle.std.specs.Prelude.{◌≡◌, ℕ, ◌*◌, ◌<◌}
use Rattle.bn_element.specs.Tables.{IsReversible}
use Rattle.bn_network.specs.Cells.{CellState, Plain, Head, IsLineOf, cell_table, line_number, cell_line}
use Rattle.bn_network.specs.Cells.{cell_line_count, state_number, state_of}
use Rattle.bn_network.specs.declared.cell_line.CellLine.{CellLine}

-- a cell's moves are one-to-one and in range, also for no symbols
abbrev pub CellsAreReversible : Type 0
CellsAreReversible = (z : ℕ) → IsReversible (cell_table z)

-- the symbol of a state is among the z symbols
abbrev pub IsStateOf : ℕ → CellState → Type 0
IsStateOf z (Plain t) = t < z
IsStateOf z (Head t) = t < z

-- a one-to-one correspondence between the ports for z symbols and the numbers below 2z + 8
abbrev pub CellLinesAreNumbered : Type 0
CellLinesAreNumbered =
    ((z : ℕ) (l : CellLine) → IsLineOf z l
    → (line_number z l < cell_line_count z) × (cell_line z (line_number z l) ≡ l))
    × ((z n : ℕ) → n < cell_line_count z → IsLineOf z (cell_line z n) × (line_number z (cell_line z n) ≡ n))

-- a one-to-one correspondence between the states for z symbols and the numbers below 2z
abbrev pub CellStatesAreNumbered : Type 0
CellStatesAreNumbered =
    ((z : ℕ) (q : CellState) → IsStateOf z q → (state_number z q < 2 * z) × (state_of z (state_number z q) ≡ q))
    × ((z n : ℕ) → n < 2 * z → IsStateOf z (state_of z n) × (state_number z (state_of z n) ≡ n))

-- ---- the laws

pub record Laws : Type 0 where
  -- A cell's moves are one-to-one, for every number of symbols.
  pub cells_are_reversible : CellsAreReversible
  -- The ports of a cell are numbered from 0 without gaps: each port has one number, and each number has one port.
  pub cell_lines_are_numbered : CellLinesAreNumbered
  -- The states of a cell are numbered from 0 without gaps: each state has one number, and each number has one state.
  pub cell_states_are_numbered : CellStatesAreNumbered
