-- The laws of this crate, each a field of `Laws`.
use Rattle.bn_machine.specs.Machine.{IsMachine}
use Rattle.bn_table.specs.Rows.{FitsTable, IsTable, Named}
use Rattle.bn_table.specs.Reading.{OneReading, ReadingOrFault}
use Rattle.bn_table.specs.declared.entry.TheConstants.{MOST_ENTRIES}
use Rattle.std.specs.Prelude.{◌≡◌}

-- a table's machine is a machine, and it is within the limits of tables
abbrev pub TablesAreMachines : Type 0
TablesAreMachines = (t : Named) → IsTable t → IsMachine t.machine × FitsTable t.machine

-- ---- the laws

pub record Laws : Type 0 where
  -- The most entries are 4,000.
  pub most_entries_are_stated : MOST_ENTRIES ≡ 4000
  -- Bytes are read as at most one table.
  pub bytes_have_one_reading : OneReading
  -- Bytes have a reading exactly if their entries have no fault.
  pub bytes_have_a_reading_or_a_fault : ReadingOrFault
  -- A table's machine is a machine, within the limits of tables.
  pub tables_are_machines : TablesAreMachines
