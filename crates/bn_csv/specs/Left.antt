-- The records that a csv reader over a slice has left, and its invariant between two records.
use Rattle.std.specs.Prelude.{◌≡◌, ◌+◌, ◌||◌, ◌&&◌, not, ℕ, true, List, [], length}
use Rattle.std.specs.Prelude.{Option, Some, None, is_some, is_none}
use Rattle.std.proofs.Common.{Bor}
use Rattle.csv.specs.Reading.{default_config, is_flexible, names_headers, records_from, source_of, took_first}
use Rattle.csv.specs.Reading.{reader_config, reader_headers, reader_state, reader_trim}
use Rattle.csv.specs.declared.parser.State.{State}
use Rattle.csv.specs.declared.reader.Reader.{Reader}
use Rattle.csv.specs.declared.reader.Trim.TheVariants as trim

-- the bytes that a reader has left, where they are known
abbrev pub unread : Reader (Bor (List ℕ)) → Option (List ℕ)
unread reader = source_of (λ (s : Bor (List ℕ)). Some s.now) reader

-- the records of the bytes that are left, from the state that the reader is in
unfoldable pub records_left : State → Option (List ℕ) → List (List (List ℕ))
records_left state None = []
records_left state (Some bytes) = records_from default_config (length bytes + 1) state bytes

-- the entries that a reader has left
abbrev pub left_of : Reader (Bor (List ℕ)) → List (List (List ℕ))
left_of reader = records_left (reader_state reader) (unread reader)

-- the invariant of a reader of entries: its settings are these, its next record is an entry, and its bytes are known
pub record IsReading (reader : Reader (Bor (List ℕ))) : Type 0 where
  pub untrimmed : reader_trim reader ≡ trim.None
  pub plain : reader_config reader ≡ default_config
  pub any_length : is_flexible reader ≡ true
  pub no_header : (took_first reader || (not (names_headers reader) && is_none (reader_headers reader))) ≡ true
  pub known : is_some (unread reader) ≡ true
