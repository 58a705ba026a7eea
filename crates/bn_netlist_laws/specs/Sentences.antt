-- The contents of a line of a configuration text, and how they are written, in both versions. Each line has one
-- meaning and one spelling: words and numbers with single spaces between them, and byte 10 at its end. The form is
-- this project's own profile.
use Rattle.std.specs.Prelude.{◌≡◌, ℕ, ◌<◌, ◌≤◌, List, [], ◌∷◌, ◌++◌, length, slice_index, Option, Some, None, codes}
use Rattle.std.specs.Prelude.{decimal}
use Rattle.bn_base.specs.Number.{greatest}
use Rattle.bn_circuits.specs.declared.line.Line.{Line}
use Rattle.bn_circuits.specs.declared.place.Place.{Place}
use Rattle.bn_circuits.specs.declared.place.Place.TheVariants.{Enter, Left}
use Rattle.bn_netlist_laws.specs.declared.version.Version.{Version}
use Rattle.bn_netlist_laws.specs.declared.version.Version.TheVariants.{One, Two}

-- The contents of a line, in the order of the variants: the title of a configuration text, with its version; the
-- number of elements; the start, an input port; the end, an output port; the count of steps; where the signal is; for
-- an element its number, the state of its bar, and for each of its outputs the input port to which its wire leads, or
-- nothing; for a column the number of its top row, the number of its rows, and the state of the bottom's bar; for a
-- row of a column where its east and its west output lead.
pub data Sentence : Type 0 where
  Title : Version → Sentence
  Count : ℕ → Sentence
  Start : Line → Sentence
  End : Line → Sentence
  Steps : ℕ → Sentence
  At : Place → Sentence
  Element : ℕ → ℕ → List (Option Line) → Sentence
  Column : ℕ → ℕ → ℕ → Sentence
  Row : Option Line → Option Line → Sentence

-- the letters of the four ports of an element, in the order of their numbers
abbrev pub side_letters : List ℕ
side_letters = codes "nesw"

-- the letters of the two states of a bar, in the order of their numbers
abbrev pub bar_letters : List ℕ
bar_letters = codes "HV"

-- a port of an element: the element's number, a point, the port's letter
abbrev pub line_text : Line → List ℕ
line_text l = decimal l.element ++ codes "." ++ slice_index side_letters l.line ∷ []

-- the text of where the signal is
abbrev pub place_text : Place → List ℕ
place_text (Enter e l) = codes "at " ++ line_text (record { element = e; line = l })
place_text (Left e l) = codes "left " ++ line_text (record { element = e; line = l })

-- the text of where the wire of an output leads; a dash if it has no wire
abbrev pub target_text : Option Line → List ℕ
target_text None = codes "-"
target_text (Some to) = line_text to

-- the same for each output, with a space before it
abbrev pub targets_text : List (Option Line) → List ℕ
targets_text [] = []
targets_text (x ∷ xs) = codes " " ++ (target_text x ++ targets_text xs)

-- the first line of a text of each version
abbrev pub title_text : Version → List ℕ
title_text One = codes "rotary 1"
title_text Two = codes "rotary 2"

-- the line with these contents, without its byte 10
abbrev pub sentence_text : Sentence → List ℕ
sentence_text (Title v) = title_text v
sentence_text (Count c) = codes "elements " ++ decimal c
sentence_text (Start l) = codes "start " ++ line_text l
sentence_text (End l) = codes "end " ++ line_text l
sentence_text (Steps t) = codes "steps " ++ decimal t
sentence_text (At p) = place_text p
sentence_text (Element n q xs) =
    codes "e " ++ (decimal n ++ (codes " " ++ (slice_index bar_letters q ∷ targets_text xs)))
sentence_text (Column e k q) =
    codes "c " ++ (decimal e ++ (codes " " ++ (decimal k ++ (codes " " ++ slice_index bar_letters q ∷ []))))
sentence_text (Row x y) = codes "r" ++ targets_text (x ∷ y ∷ [])

-- lines one after another, each with its byte 10
abbrev pub lines_text : List Sentence → List ℕ
lines_text [] = []
lines_text (x ∷ xs) = sentence_text x ++ 10 ∷ lines_text xs

-- a port that a text can name: its element has a number that can be read, and it has one of the four letters
abbrev pub IsNameable : Line → Type 0
IsNameable l = (l.element ≤ greatest) × (l.line < 4)

abbrev pub AreNameable : List (Option Line) → Type 0
AreNameable [] = Unit {0}
AreNameable (None ∷ xs) = AreNameable xs
AreNameable (Some l ∷ xs) = IsNameable l × AreNameable xs

abbrev pub line_of_place : Place → Line
line_of_place (Enter e l) = record { element = e; line = l }
line_of_place (Left e l) = record { element = e; line = l }

-- The contents can be written: the numbers are at most the greatest that can be read, ports and states have letters,
-- there is at least one element or row, and an element has four outputs.
abbrev pub IsSayable : Sentence → Type 0
IsSayable (Title v) = Unit {0}
IsSayable (Count c) = (0 < c) × (c ≤ greatest)
IsSayable (Start l) = IsNameable l
IsSayable (End l) = IsNameable l
IsSayable (Steps t) = t ≤ greatest
IsSayable (At (Enter e l)) = IsNameable (record { element = e; line = l })
IsSayable (At (Left e l)) = IsNameable (record { element = e; line = l })
IsSayable (Element n q xs) = (n ≤ greatest) × (q < 2) × (length xs ≡ 4) × AreNameable xs
IsSayable (Column e k q) = (e ≤ greatest) × (0 < k) × (k ≤ greatest) × (q < 2)
IsSayable (Row x y) = AreNameable (x ∷ y ∷ [])
