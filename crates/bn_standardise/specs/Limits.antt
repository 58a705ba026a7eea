-- The limits of a table of quintuples (this project's own profile).
use Rattle.std.specs.Prelude.{ℕ, ◌*◌}
use Rattle.bn_table.specs.declared.entry.TheConstants.{MOST_ENTRIES}

-- the greatest number of states: two for each quintuple
abbrev pub most_states : ℕ
most_states = 2 * MOST_ENTRIES

-- the greatest number of symbols, the blank among them: one for each byte that may be a letter
abbrev pub most_symbols : ℕ
most_symbols = 91
