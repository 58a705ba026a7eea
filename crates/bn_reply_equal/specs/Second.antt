use Rattle.std.specs.Prelude.{ℕ, List, [], ◌∷◌, ◌++◌, codes, if◌then◌else◌, ◌==◌}
use Rattle.bn_reply.specs.Lines.{line}

abbrev pub no_second_line : List ℕ
no_second_line = line (codes "text: no second" ∷ [])

abbrev pub with_second : List ℕ → List ℕ
with_second [] = []
with_second (byte ∷ rest) = if byte == 32 then byte ∷ codes "second " ++ rest else byte ∷ with_second rest
