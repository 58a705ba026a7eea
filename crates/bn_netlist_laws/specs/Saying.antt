-- Parsing a line of a configuration text: its contents as a line of its kind; `None` if it has another form.
use Rattle.std.specs.Prelude.{ℕ, ◌==◌, List, Option, Some, None, option_map, if◌then◌else◌, codes}
use Rattle.bn_circuits.specs.declared.place.Place.TheVariants.{Enter, Left}
use Rattle.bn_netlist_laws.specs.Reading.{◌>>=◌, word_taken, number_taken, bar_taken, target_taken, ended, number_after}
use Rattle.bn_netlist_laws.specs.Reading.{named_after, named, named_target, named_targets, element_of}
use Rattle.bn_netlist_laws.specs.Sentences.{Sentence, Title, Count, Start, End, Steps, At, Element, Column, title_text}
use Rattle.bn_netlist_laws.specs.Sentences as sentences
use Rattle.bn_netlist_laws.specs.declared.element_line.ElementLine.{ElementLine}
use Rattle.bn_netlist_laws.specs.declared.version.Version.{Version}
use Rattle.bn_netlist_laws.specs.declared.version.Version.TheVariants.{One, Two}

-- a line of a column: the number of its top row, the number of its rows, and the bar of its bottom
unfoldable pub column_of : List ℕ → Option (ℕ × ℕ × ℕ)
column_of line = do
  first ← word_taken (codes "c ") line
  element ← number_taken first
  second ← word_taken (codes " ") element.1
  rows ← number_taken second
  third ← word_taken (codes " ") rows.1
  bar ← bar_taken third
  ended ((element.0, rows.0, bar.0), bar.1)

-- a line of a row of a column: where its east and its west output lead
unfoldable pub sides_of : List ℕ → Option (Option (ℕ × ℕ) × Option (ℕ × ℕ))
sides_of line = do
  first ← word_taken (codes "r") line
  x ← target_taken first
  y ← target_taken x.1
  ended ((x.0, y.0), y.1)

-- the first of two results, if there is one, otherwise the second
abbrev pub first_some : Option Sentence → Option Sentence → Option Sentence
first_some None other = other
first_some (Some x) other = Some x

abbrev pub version_said : Version → List ℕ → Option Sentence
version_said v line = word_taken (title_text v) line >>= λ behind. ended (Title v, behind)

abbrev pub title_said : List ℕ → Option Sentence
title_said line = first_some (version_said One line) (version_said Two line)

abbrev pub count_said_by : ℕ → Option Sentence
count_said_by n = if n == 0 then None else Some (Count n)

abbrev pub count_said : List ℕ → Option Sentence
count_said line = number_after (codes "elements ") line >>= count_said_by

abbrev pub start_said : List ℕ → Option Sentence
start_said line = option_map (λ l. Start (named l)) (named_after (codes "start ") line)

abbrev pub end_said : List ℕ → Option Sentence
end_said line = option_map (λ l. End (named l)) (named_after (codes "end ") line)

abbrev pub steps_said : List ℕ → Option Sentence
steps_said line = option_map Steps (number_after (codes "steps ") line)

abbrev pub place_said_by : Option (ℕ × ℕ) → Option (ℕ × ℕ) → Option Sentence
place_said_by (Some l) left = Some (At (Enter l.0 l.1))
place_said_by None left = option_map (λ l. At (Left l.0 l.1)) left

abbrev pub place_said : List ℕ → Option Sentence
place_said line = place_said_by (named_after (codes "at ") line) (named_after (codes "left ") line)

abbrev pub element_sentence : ElementLine → Sentence
element_sentence e = Element e.number e.state (named_targets e.targets)

abbrev pub element_said : List ℕ → Option Sentence
element_said line = option_map element_sentence (element_of line)

abbrev pub column_said_by : ℕ × ℕ × ℕ → Option Sentence
column_said_by c = if c.1 == 0 then None else Some (Column c.0 c.1 c.2)

abbrev pub column_said : List ℕ → Option Sentence
column_said line = column_of line >>= column_said_by

-- a line that begins an entry: that of an element, or in version 2 that of a column
abbrev pub entry_said : Version → List ℕ → Option Sentence
entry_said One line = element_said line
entry_said Two line = first_some (element_said line) (column_said line)

abbrev pub row_said : List ℕ → Option Sentence
row_said line =
    option_map (λ (p : Option (ℕ × ℕ) × Option (ℕ × ℕ)). sentences.Row (named_target p.0) (named_target p.1))
    (sides_of line)

-- the contents of a line of this kind, in this version
abbrev pub said : Version → ℕ → List ℕ → Option Sentence
said v k line =
    if k == 0 then title_said line
    else (if k == 1 then count_said line
    else (if k == 2 then start_said line
    else (if k == 3 then end_said line
    else (if k == 4 then steps_said line
    else (if k == 5 then place_said line
    else (if k == 6 then entry_said v line
    else row_said line))))))
