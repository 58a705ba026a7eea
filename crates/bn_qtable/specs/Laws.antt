-- The laws of this crate, a named field each. `Laws` is the contract of `qtable_laws`.
use Rattle.bn_qtable.specs.Reading.{OneReading, ReadingOrFault, ReadTablesAreNamed}
use Rattle.bn_qtable.specs.declared.entry.TheConstants.{MOST_ENTRIES}
use Rattle.std.specs.Prelude.{◌≡◌}

pub record Laws : Type 0 where
  -- The most entries are 20,000.
  pub most_entries_are_stated : MOST_ENTRIES ≡ 20000
  -- Bytes are read as at most one table.
  pub bytes_have_one_reading : OneReading
  -- Bytes have a reading exactly if their entries have no fault.
  pub bytes_have_a_reading_or_a_fault : ReadingOrFault
  -- If bytes are read as a table, the table can be written, and the text is read as the same table.
  pub tables_that_are_read_can_be_written : ReadTablesAreNamed
