-- The reading of bytes as a table of quintuples (this project's own profile).
use Rattle.std.specs.Prelude.{◌≡◌, ℕ, List, None, ◌↔◌}
use Rattle.bn_csv.specs.Entries.{entries_of}
use Rattle.bn_table.specs.Faults.{table_fault}
use Rattle.bn_table.specs.Rows.{IsTableOf, Named}

-- the bytes are read as this table: it has the entries of the bytes
abbrev pub Reads : List ℕ → Named → Type 0
Reads bytes t = IsTableOf (entries_of bytes) t

-- bytes are read as at most one table
abbrev pub OneReading : Type 0
OneReading = (bytes : List ℕ) (t u : Named) → Reads bytes t → Reads bytes u → t ≡ u

-- bytes have a reading exactly if their entries have no fault
abbrev pub ReadingOrFault : Type 0
ReadingOrFault = (bytes : List ℕ) → (table_fault (entries_of bytes) ≡ None) ↔ ((t : Named) × Reads bytes t)
