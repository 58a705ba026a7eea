-- Parsers for the parts of a line of a configuration text. A parser returns the value at the front of some bytes and
-- the bytes after it, or `None` if the bytes have another form.
use Rattle.std.specs.Prelude.{◌≡◌, ℕ, ◌==◌, List, [], ◌∷◌, length, drop, Option, Some, None, option_and_then}
use Rattle.std.specs.Prelude.{option_map, if◌then◌else◌, Result, Ok, Err, codes}
use Rattle.bn_base.specs.Number.{read_number}
use Rattle.bn_base.specs.declared.numbers.Digits.{Digits}
use Rattle.bn_element.specs.Rotary.{horizontal, vertical, north, east, south, west}
use Rattle.bn_circuits.specs.declared.line.Line.{Line}
use Rattle.bn_netlist_laws.specs.declared.element_line.ElementLine.{ElementLine}

-- one parser after another; `None` if one of them fails
infixl 10 ◌>>=◌
abbrev pub ◌>>=◌ : {A B : Type 0} → Option A → (A → Option B) → Option B
o >>= f = option_and_then f o

-- the parser returns this value and leaves these bytes
abbrev pub Takes : {X : Type 0} → Option X → List ℕ → Option (X × List ℕ) → Type 0
Takes None left taken = taken ≡ None
Takes (Some x) left taken = taken ≡ Some (x, left)

-- the bytes after a word
unfoldable pub word_taken : List ℕ → List ℕ → Option (List ℕ)
word_taken [] bytes = Some bytes
word_taken (w ∷ word) [] = None
word_taken (w ∷ word) (b ∷ bytes) = if b == w then word_taken word bytes else None

-- a number
abbrev pub number_by : List ℕ → Result (ℕ × ℕ) Digits → Option (ℕ × List ℕ)
number_by bytes (Ok read) = Some (read.0, drop read.1 bytes)
number_by bytes (Err fault) = None

unfoldable pub number_taken : List ℕ → Option (ℕ × List ℕ)
number_taken bytes = number_by bytes (read_number bytes 0)

-- a letter that denotes a number
abbrev pub letter_taken : (ℕ → Option ℕ) → List ℕ → Option (ℕ × List ℕ)
letter_taken number [] = None
letter_taken number (b ∷ bytes) = option_map (λ n. (n, bytes)) (number b)

abbrev pub side_of : ℕ → Option ℕ
side_of b =
    if b == 110 then Some north
    else (if b == 101 then Some east
    else (if b == 115 then Some south
    else (if b == 119 then Some west else None)))

abbrev pub bar_of : ℕ → Option ℕ
bar_of b = if b == 72 then Some horizontal else (if b == 86 then Some vertical else None)

unfoldable pub side_taken : List ℕ → Option (ℕ × List ℕ)
side_taken bytes = letter_taken side_of bytes

unfoldable pub bar_taken : List ℕ → Option (ℕ × List ℕ)
bar_taken bytes = letter_taken bar_of bytes

-- a port of an element, as the element's number and the port's number
unfoldable pub line_taken : List ℕ → Option ((ℕ × ℕ) × List ℕ)
line_taken bytes = do
  element ← number_taken bytes
  behind ← word_taken (codes ".") element.1
  side ← side_taken behind
  Some ((element.0, side.0), side.1)

-- where an output leads, after a space
abbrev pub target_by : Option (List ℕ) → Option ((ℕ × ℕ) × List ℕ) → Option (Option (ℕ × ℕ) × List ℕ)
target_by (Some behind) line = Some (None, behind)
target_by None line = option_map (λ l. (Some l.0, l.1)) line

unfoldable pub target_taken : List ℕ → Option (Option (ℕ × ℕ) × List ℕ)
target_taken bytes = do
  behind ← word_taken (codes " ") bytes
  target_by (word_taken (codes "-") behind) (line_taken behind)

-- the four targets
unfoldable pub targets_taken : List ℕ → Option (List (Option (ℕ × ℕ)) × List ℕ)
targets_taken bytes = do
  n ← target_taken bytes
  e ← target_taken n.1
  s ← target_taken e.1
  w ← target_taken s.1
  Some (n.0 ∷ e.0 ∷ s.0 ∷ w.0 ∷ [], w.1)

-- the value, if no byte is left after it
abbrev pub ended : {X : Type 0} → X × List ℕ → Option X
ended taken = if length taken.1 == 0 then Some taken.0 else None

-- a line that is a word and a number; below, a word and a port of an element
unfoldable pub number_after : List ℕ → List ℕ → Option ℕ
number_after word line = do
  behind ← word_taken word line
  taken ← number_taken behind
  ended taken

unfoldable pub named_after : List ℕ → List ℕ → Option (ℕ × ℕ)
named_after word line = do
  behind ← word_taken word line
  taken ← line_taken behind
  ended taken

-- a line that is that of an element
unfoldable pub element_of : List ℕ → Option ElementLine
element_of line = do
  first ← word_taken (codes "e ") line
  number ← number_taken first
  second ← word_taken (codes " ") number.1
  bar ← bar_taken second
  targets ← targets_taken bar.1
  ended (record { number = number.0; state = bar.0; targets = targets.0 }, targets.1)

-- a port of an element from its two numbers
abbrev pub named : ℕ × ℕ → Line
named l = record { element = l.0; line = l.1 }

abbrev pub named_target : Option (ℕ × ℕ) → Option Line
named_target None = None
named_target (Some l) = Some (named l)

abbrev pub named_targets : List (Option (ℕ × ℕ)) → List (Option Line)
named_targets [] = []
named_targets (x ∷ xs) = named_target x ∷ named_targets xs
