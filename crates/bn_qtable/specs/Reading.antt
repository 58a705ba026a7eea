-- The reading of bytes as a table of quadruples (this project's own profile).
use Rattle.std.specs.Prelude.{◌≡◌, ℕ, List, None, ◌↔◌}
use Rattle.bn_csv.specs.Entries.{entries_of}
use Rattle.bn_qtable.specs.Faults.{quadruple_table_fault}
use Rattle.bn_qtable.specs.Named.{HasNames}
use Rattle.bn_qtable.specs.Rows.{IsTable, IsQuadTableOf, QuadTable}

-- the bytes are read as this table: it has the entries of the bytes
abbrev pub ReadsQuadruples : List ℕ → QuadTable → Type 0
ReadsQuadruples bytes t = IsQuadTableOf (entries_of bytes) t

-- bytes are read as at most one table
abbrev pub OneReading : Type 0
OneReading = (bytes : List ℕ) (t u : QuadTable) → ReadsQuadruples bytes t → ReadsQuadruples bytes u → t ≡ u

-- bytes have a reading exactly if their entries have no fault
abbrev pub ReadingOrFault : Type 0
ReadingOrFault = (bytes : List ℕ)
    → (quadruple_table_fault (entries_of bytes) ≡ None) ↔ ((t : QuadTable) × ReadsQuadruples bytes t)

-- if bytes are read as a table, its states and symbols have names, and it is the table of its own entries
abbrev pub ReadTablesAreNamed : Type 0
ReadTablesAreNamed = (bytes : List ℕ) (t : QuadTable) → ReadsQuadruples bytes t → HasNames t.machine t.names × IsTable t
