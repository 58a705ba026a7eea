-- A table that is being read.
use Rattle.std.specs.Prelude.{ℕ, List}
use Rattle.bn_table.specs.Rows.{SpellsQuintuples, rows_by}
use Rattle.bn_table.specs.declared.draft.Draft.{Draft}

-- the entries of a draft's quintuples
abbrev pub drafted : Draft → List (List (List ℕ))
drafted d = rows_by d.names d.letters.items d.quints.items

-- the draft's names and letters are those of its entries
abbrev pub IsDraft : Draft → Type 0
IsDraft d = SpellsQuintuples d.names d.letters.items d.quints.items (drafted d)
