use Rattle.bn_qtable.proofs.LawLemmas.{bytes_have_one_reading, bytes_have_a_reading_or_a_fault}
use Rattle.bn_qtable.proofs.LawLemmas.{tables_that_are_read_can_be_written}
use Rattle.std.proofs.Common.{refl}
use Rattle.bn_qtable.proofs.laws.qtable_laws.Goals as goal

pub returns : goal.returns
returns _ = record {
  most_entries_are_stated = refl;
  bytes_have_one_reading = bytes_have_one_reading;
  bytes_have_a_reading_or_a_fault = bytes_have_a_reading_or_a_fault;
  tables_that_are_read_can_be_written = tables_that_are_read_can_be_written;
}
