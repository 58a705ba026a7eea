-- The lines of a network text. At most so many are read as a text can have, and what is left after them is told.
use Rattle.std.specs.Prelude.{◌≡◌, ℕ, ◌≤◌, nat_lt, Bool, List, [], ◌∷◌, ◌++◌, All, length, map, Option, ◌⊎◌}
use Rattle.bn_base.specs.Line.{IsInLine}
use Rattle.bn_network_text.specs.Saying.{said}
use Rattle.bn_network_text.specs.declared.sentence.Sentence.{Sentence}

-- the number of lines before those of the modules, and the most lines of a text
abbrev pub header_lines : ℕ
header_lines = 5

abbrev pub most_lines : ℕ
most_lines = 65541

-- lines one after another, each with its byte 10
abbrev pub joined : List (List ℕ) → List ℕ
joined [] = []
joined (line ∷ lines) = line ++ 10 ∷ joined lines

-- The text begins with these lines, each with its byte 10, and these bytes are left; no whole line is among them,
-- unless the most lines come before them.
pub record AreLines (text : List ℕ) (lines : List (List ℕ)) (left : List ℕ) : Type 0 where
  pub begins : text ≡ joined lines ++ left
  pub whole : All IsInLine lines
  pub few : length lines ≤ most_lines
  pub rest : IsInLine left ⊎ (length lines ≡ most_lines)

-- what the lines say, and whether bytes are left after them
pub record Page : Type 0 where
  pub says : List (Option Sentence)
  pub more : Bool

-- this is the page of the text
pub record IsPage (text : List ℕ) (p : Page) : Type 0 where
  pub lines : List (List ℕ)
  pub left : List ℕ
  pub are : AreLines text lines left
  pub says : p.says ≡ map said lines
  pub more : p.more ≡ nat_lt 0 (length left)
