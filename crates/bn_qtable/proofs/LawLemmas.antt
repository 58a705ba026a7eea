-- The laws of this crate that follow from those of the crates below it, each proved.
use Rattle.bn_csv.specs.Entries.{entries_of}
use Rattle.bn_qtable.proofs.ReadingLaws.{one_reading, no_fault_of, reading_of}
use Rattle.bn_qtable.proofs.RowsLemmas.{own_table, table_has_names}
use Rattle.bn_qtable.specs.Reading.{OneReading, ReadingOrFault, ReadTablesAreNamed}

pub bytes_have_one_reading : OneReading
bytes_have_one_reading = λ bytes t u h k. one_reading (entries_of bytes) t u h k

pub bytes_have_a_reading_or_a_fault : ReadingOrFault
bytes_have_a_reading_or_a_fault =
    λ bytes. (λ none. reading_of (entries_of bytes) none, λ r. no_fault_of (entries_of bytes) r.0 r.1)

pub tables_that_are_read_can_be_written : ReadTablesAreNamed
tables_that_are_read_can_be_written =
    λ bytes t h. (table_has_names (entries_of bytes) t h, own_table (entries_of bytes) t h)
