-- A table's machine is a machine within the limits of tables.
use Rattle.std.specs.Prelude.{◌≡◌, ℕ, length}
use Rattle.std.proofs.Common.{sym, subst, arith, get_or}
use Rattle.std.proofs.lemmas.List.{length-map}
use Rattle.bn_machine.specs.Machine.{IsInRange, IsMachine}
use Rattle.bn_table.specs.Laws.{TablesAreMachines}
use Rattle.bn_table.specs.Rows.{Named, IsTable, rows_of}
use Rattle.bn_table.proofs.Bounds.{fits_table}

pub table_machine : (t : Named) → IsTable t → IsMachine t.machine
table_machine t h = record {
  some = let rows : length (rows_of t) ≡ length t.machine.quints = simp length-map in omega (arith, h.some);
  few = let rows : length (rows_of t) ≡ length t.machine.quints = simp length-map in omega (arith, h.few);
  in_range = λ k d inside. subst (λ (f : ℕ). IsInRange f t.machine.symbols (get_or t.machine.quints k d)) (sym h.states)
      (subst (λ (z : ℕ). IsInRange (length t.names) z (get_or t.machine.quints k d)) (sym h.symbols)
      (h.spelled.in_range k d inside));
}

pub tables_machines : TablesAreMachines
tables_machines t h = (table_machine t h, fits_table t h)
