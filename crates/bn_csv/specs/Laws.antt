-- The laws of this crate, a named field each. `Laws` is the contract of `csv_laws`.
use Rattle.bn_csv.specs.Entries.{entries_of}
use Rattle.bn_csv.specs.Lines.{is_plain_entry, lines_of}
use Rattle.bn_csv.specs.Numbering.{AreNumbered, firsts}
use Rattle.std.specs.List.{list_all}
use Rattle.std.specs.Prelude.{List, ℕ, true, ◌≡◌}

pub record Laws : Type 0 where
  -- The lines of entries that need no quotes are read as the same entries.
  pub written_entries_are_read_back :
      (entries : List (List (List ℕ))) → list_all is_plain_entry entries ≡ true
      → entries_of (lines_of entries) ≡ entries
  -- First appearances number a list of names: each name has one number, which later names do not change, because a new
  -- name is last.
  pub first_appearances_number_names : (names : List (List ℕ)) → AreNumbered names (firsts names)
