use Rattle.bn_table.proofs.LawLemmas.{bytes_have_one_reading, bytes_have_a_reading_or_a_fault}
use Rattle.bn_table.proofs.MachineLemmas.{tables_machines}
use Rattle.std.proofs.Common.{refl}
use Rattle.bn_table.proofs.laws.table_laws.Goals as goal

pub returns : goal.returns
returns _ = record {
  most_entries_are_stated = refl;
  bytes_have_one_reading = bytes_have_one_reading;
  bytes_have_a_reading_or_a_fault = bytes_have_a_reading_or_a_fault;
  tables_are_machines = tables_machines;
}
