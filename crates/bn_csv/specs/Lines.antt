-- The text of a table: one line for each entry.
use Rattle.std.specs.Prelude.{ℕ, Bool, false, not, ◌&&◌, ◌==◌, nat_le, List, [], ◌∷◌, ◌++◌}
use Rattle.std.specs.List.{join_with_byte, list_all}

-- a byte that csv reads as itself wherever it stands: printable ASCII but for the comma and the double quote
abbrev pub is_plain_byte : ℕ → Bool
is_plain_byte b = nat_le 33 b && nat_le b 126 && not (b == 44) && not (b == 34)

-- a field that needs no quotes: one or more such bytes
abbrev pub is_plain : List ℕ → Bool
is_plain [] = false
is_plain (b ∷ rest) = is_plain_byte b && list_all is_plain_byte rest

-- an entry whose fields need no quotes: it has a field, and each is plain
abbrev pub is_plain_entry : List (List ℕ) → Bool
is_plain_entry [] = false
is_plain_entry (field ∷ rest) = is_plain field && list_all is_plain rest

-- an entry's line: its fields with a comma between each two, and a line feed
unfoldable pub line_of : List (List ℕ) → List ℕ
line_of fields = join_with_byte 44 fields ++ 10 ∷ []

-- the lines of entries, one after the other
unfoldable pub lines_of : List (List (List ℕ)) → List ℕ
lines_of [] = []
lines_of (fields ∷ rest) = line_of fields ++ lines_of rest
