-- Lines of a text of bytes. A line ends with byte 10; bytes after the last byte 10 are a line cut short.
use Rattle.std.specs.Prelude.{◌≡◌, ◌≢◌, ℕ, List, [], ◌∷◌, ◌++◌, All}
use Rattle.bn_base.specs.declared.lines.NextLine.{NextLine}
use Rattle.bn_base.specs.declared.lines.NextLine.TheVariants.{Whole, Cut, End}

-- none of these bytes ends a line
abbrev pub IsInLine : List ℕ → Type 0
IsInLine bytes = All (λ byte. byte ≢ 10) bytes

-- the result is the next line of `bytes`, and `rest` contains the bytes after it
abbrev pub IsNextLine : List ℕ → NextLine → List ℕ → Type 0
IsNextLine bytes (Whole line) rest = IsInLine line.now × (bytes ≡ line.now ++ 10 ∷ rest)
IsNextLine bytes (Cut line) rest = IsInLine line.now × (bytes ≡ line.now) × (bytes ≢ []) × (rest ≡ [])
IsNextLine bytes End rest = (bytes ≡ []) × (rest ≡ [])

-- A text is cut at its first byte 10 in one way: two such cuts have the same line and the same rest.
abbrev pub LinesAgree : Type 0
LinesAgree =
    (first second rest other : List ℕ) → IsInLine first → IsInLine second → first ++ 10 ∷ rest ≡ second ++ 10 ∷ other
    → (first ≡ second) × (rest ≡ other)

-- Bytes without a byte 10 do not begin with a line that ends with byte 10.
abbrev pub CutLinesDiffer : Type 0
CutLinesDiffer = (bytes line rest : List ℕ) → IsInLine bytes → bytes ≢ line ++ 10 ∷ rest
