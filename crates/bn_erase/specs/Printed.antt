-- The printed names of the erasing machine's states and symbols (own to this project).
use Rattle.std.specs.Prelude.{ℕ, List, ◌∷◌, length, map, max}
use Rattle.bn_quad.specs.Names.{Naming, naming_of}
use Rattle.bn_bennett.specs.Printed.{number_names, one_byte, bennett_state_text}
use Rattle.bn_erase_laws.specs.declared.name.ErasingName.{ErasingName}
use Rattle.bn_erase_laws.specs.declared.name.ErasingName.TheVariants.{First, Second}
use Rattle.bn_erase.specs.Joint.{Joint}
use Rattle.bn_erase.specs.Made.{Erasure}

-- the printed name of a state: `F` and its name for the first machine, `G` and its name for the second
abbrev pub erasing_text : ErasingName → List ℕ
erasing_text (First name) = 70 ∷ bennett_state_text name
erasing_text (Second name) = 71 ∷ bennett_state_text name

-- the names of the symbols: on tapes 1 and 3 the letters; on tape 2 the blank, and the numbers from 1 to the greater
-- number of quintuples
abbrev pub letter_names : Joint → List (List ℕ)
letter_names j = map one_byte j.letters

abbrev pub history_names : Joint → List (List ℕ)
history_names j = number_names (max (length j.first.quints) (length j.second.quints))

-- all names of an erasing machine
abbrev pub names_of : Joint → Erasure → Naming
names_of j e = naming_of (map erasing_text e.names) (letter_names j) (history_names j) (letter_names j)
