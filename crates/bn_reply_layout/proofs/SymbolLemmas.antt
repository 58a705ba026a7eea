-- A table has few letters and few quintuples, and a letter at least.
use Rattle.std.specs.Prelude.{◌≡◌, ℕ, ◌+◌, length}
use Rattle.std.proofs.Common.{arith}
use Rattle.bn_table.specs.Rows.{IsTable, Named}
use Rattle.bn_table.proofs.MachineLemmas.{tables_machines}
use Rattle.bn_bennett.proofs.Machines.{some_symbols}
use Rattle.bn_cell.specs.Sizes.{IsCellSize}

-- there is a cell for its letters, and one for the history
pub letters_size : (t : Named) (z : ℕ) → IsTable t → z ≡ t.machine.symbols → IsCellSize z
letters_size t z table same =
    let machine = tables_machines t table in
    let some = some_symbols t.machine machine.0 in
    let few = machine.1.symbols in
    record { some = omega arith; few = omega arith }

pub history_size : (t : Named) (z : ℕ) → IsTable t → z ≡ length t.machine.quints + 1 → IsCellSize z
history_size t z table same =
    let few = (tables_machines t table).1.quints in
    record { some = omega arith; few = omega arith }
