-- The numbers of symbols for which there is a cell, and the machines that are cells.
use Rattle.std.specs.Prelude.{◌≡◌, ℕ, ◌+◌, ◌*◌, ◌≤◌, Bool, true, false, length}
use Rattle.std.specs.Coded.{le_prop}
use Rattle.bn_rsm.specs.Machines.{Machine, machine_table}
use Rattle.bn_network.specs.Cells.{CellState, Plain, Head, cell_table}
use Rattle.bn_network.specs.declared.limits.TheConstants.{MOST_SYMBOLS}

-- there is at least one symbol, the blank, and there are not too many
pub record IsCellSize (z : ℕ) : Type 0 where
  pub some : 1 ≤ z
  pub few : z ≤ MOST_SYMBOLS

-- any two proofs of it are equal
pub IsCellSize-prop : (z : ℕ) → IsProp (IsCellSize z)
IsCellSize-prop z = hlevel le_prop

-- the state with this symbol, with the head or without it
abbrev pub cell_state : Bool → ℕ → CellState
cell_state true t = Head t
cell_state false t = Plain t

-- The machine is the cell for z symbols: it has two states for each symbol, 2z + 8 ports, and the cell's moves, each
-- listed once.
pub record IsCellOf (z : ℕ) (m : Machine) : Type 0 where
  pub states : m.states ≡ 2 * z
  pub lines : m.lines ≡ 2 * z + 8
  pub goes : (q i : ℕ) → (machine_table m).go q i ≡ (cell_table z).go q i
  pub moves : length m.moves ≡ z * (2 * z + 8) + 4 * z
