-- What a line of a network text says: its contents, or nothing if it has none of the forms. Each line has one spelling:
-- words and numbers with single spaces between them. The form is this project's own profile.
use Rattle.std.specs.Prelude.{ℕ, zero, suc, List, [], ◌∷◌, Option, Some, None, option_map}
use Rattle.std.specs.Prelude.{codes}
use Rattle.bn_base.specs.declared.limits.TheConstants.{MOST_COUNT}
use Rattle.bn_element.specs.Rotary.{horizontal, vertical}
use Rattle.bn_netlist_laws.specs.Reading.{◌>>=◌, word_taken, number_taken, number_after, target_by, ended}
use Rattle.bn_network_text.specs.Entries.{Port, ModuleLine}
use Rattle.bn_network_text.specs.declared.entry.Kind.{Kind}
use Rattle.bn_network_text.specs.declared.entry.Kind.TheVariants.{Machine, Rotary}
use Rattle.bn_network_text.specs.declared.sentence.Sentence.{Sentence}
use Rattle.bn_network_text.specs.declared.sentence.Sentence.TheVariants.{Title, Count, Start, End, At, Module}

-- a port: the number of a module, a point, and the number of a port
unfoldable pub port_taken : List ℕ → Option (Port × List ℕ)
port_taken bytes = do
  m ← number_taken bytes
  behind ← word_taken (codes ".") m.1
  l ← number_taken behind
  Some ((m.0, l.0), l.1)

-- where an output port leads, after a space: a port, or a dash for nowhere
unfoldable pub aim_taken : List ℕ → Option (Option Port × List ℕ)
aim_taken bytes = do
  behind ← word_taken (codes " ") bytes
  target_by (word_taken (codes "-") behind) (port_taken behind)

-- the same for each output port to the end of the line, at most so many
unfoldable pub aims_taken : ℕ → List ℕ → Option (List (Option Port))
aims_taken most [] = Some []
aims_taken zero (b ∷ bytes) = None
aims_taken (suc most) (b ∷ bytes) = do
  aim ← aim_taken (b ∷ bytes)
  rest ← aims_taken most aim.1
  Some (aim.0 ∷ rest)

-- the letter of a bar: `H` for horizontal, `V` for vertical
abbrev pub bar_by : Option (List ℕ) → Option (List ℕ) → Option (ℕ × List ℕ)
bar_by (Some behind) other = Some (horizontal, behind)
bar_by None other = option_map (λ behind. (vertical, behind)) other

unfoldable pub bar_taken : List ℕ → Option (ℕ × List ℕ)
bar_taken bytes = bar_by (word_taken (codes "H") bytes) (word_taken (codes "V") bytes)

-- the line of a machine up to its state, and below, that of a rotary element up to its bar: the number of the module
-- and what it is
unfoldable pub machine_taken : List ℕ → Option ((ℕ × Kind) × List ℕ)
machine_taken line = do
  first ← word_taken (codes "m ") line
  number ← number_taken first
  second ← word_taken (codes " ") number.1
  table ← number_taken second
  third ← word_taken (codes " ") table.1
  state ← number_taken third
  Some ((number.0, Machine table.0 state.0), state.1)

unfoldable pub rotary_taken : List ℕ → Option ((ℕ × Kind) × List ℕ)
rotary_taken line = do
  first ← word_taken (codes "e ") line
  number ← number_taken first
  second ← word_taken (codes " ") number.1
  bar ← bar_taken second
  Some ((number.0, Rotary bar.0), bar.1)

-- either of them
abbrev pub first_head : Option ((ℕ × Kind) × List ℕ) → Option ((ℕ × Kind) × List ℕ) → Option ((ℕ × Kind) × List ℕ)
first_head None other = other
first_head (Some x) other = Some x

unfoldable pub head_taken : List ℕ → Option ((ℕ × Kind) × List ℕ)
head_taken line = first_head (machine_taken line) (rotary_taken line)

-- the line of a module
unfoldable pub entry_of : List ℕ → Option ModuleLine
entry_of line = do
  head ← head_taken line
  aims ← aims_taken MOST_COUNT head.1
  Some (record { number = head.0.0; kind = head.0.1; targets = aims })

-- a word and a port
unfoldable pub port_after : List ℕ → List ℕ → Option Port
port_after word line = do
  behind ← word_taken word line
  taken ← port_taken behind
  ended taken

unfoldable pub title_after : List ℕ → List ℕ → Option Sentence
title_after word line = do
  behind ← word_taken word line
  ended (Title, behind)

-- the first of two results, if there is one, otherwise the second
abbrev pub first_some : Option Sentence → Option Sentence → Option Sentence
first_some None other = other
first_some (Some x) other = Some x

-- the contents of a line that is none of a module
unfoldable pub header_said : List ℕ → Option Sentence
header_said line =
    first_some (title_after (codes "network 1") line)
    (first_some (option_map Count (number_after (codes "modules ") line))
    (first_some (option_map Start (port_after (codes "start ") line))
    (first_some (option_map End (port_after (codes "end ") line))
    (option_map At (port_after (codes "at ") line)))))

-- the contents of a line, without its byte 10
unfoldable pub said : List ℕ → Option Sentence
said line = first_some (header_said line) (option_map Module (entry_of line))
