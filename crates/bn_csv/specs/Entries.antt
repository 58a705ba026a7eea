-- The entries of some bytes: their csv records without a header, as this project's tables are read.
use Rattle.std.specs.Prelude.{ℕ, List, [], slice_index_or}
use Rattle.csv.specs.Reading.{default_config, records, strip_bom}

-- all entries of some bytes, each the list of its fields: a byte order mark at the start is dropped, commas separate
-- fields, a carriage return, a line feed or both end an entry, empty lines are not entries, and quotes are read
unfoldable pub entries_of : List ℕ → List (List (List ℕ))
entries_of bytes = records default_config (strip_bom bytes)

-- a field of an entry, by its place counted from 0
abbrev pub field_at : List (List ℕ) → ℕ → List ℕ
field_at fields place = slice_index_or fields place []
