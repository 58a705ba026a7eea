-- The text of the machine in standard form, with printed names for its states and the table's letters for its symbols
-- (this project's own profile).
use Rattle.std.specs.Prelude.{ℕ, ◌+◌, ◌<◌, List, [], ◌∷◌, map, slice_index, decimal}
use Rattle.bn_csv.specs.Lines.{lines_of}
use Rattle.bn_table.specs.Entry.{entry_of}
use Rattle.bn_table.specs.Rows.{Named, named_program}
use Rattle.bn_standardise.specs.Limits.{most_states}
use Rattle.bn_standardise.specs.Rules.{rules_of}
use Rattle.bn_standardise.specs.Numbering.{distinct_names}
use Rattle.bn_standardise.specs.Standardised.{standardised}
use Rattle.bn_standardise.specs.declared.name.Name.{Name}
use Rattle.bn_standardise.specs.declared.name.Name.TheVariants.{First, Own, Last}
use Rattle.bn_standardise.specs.declared.rule.Rule.{Rule}

-- the printed text of a name: `I`, `O`, or `Q` followed by the state's number, counted from 1
abbrev pub name_text : Name → List ℕ
name_text First = 73 ∷ []
name_text (Own s) = 81 ∷ decimal (s + 1)
name_text Last = 79 ∷ []

-- the entry of a quintuple (`Rule`)
abbrev pub rule_entry : List ℕ → Rule → List (List ℕ)
rule_entry letters r = entry_of (record {
  state = name_text r.state;
  read = slice_index letters r.read;
  write = slice_index letters r.write;
  shift = r.shift;
  next = name_text r.next;
})

-- the lines of the list, in order
abbrev pub standard_lines : Named → List ℕ
standard_lines t = lines_of (map (rule_entry t.letters) (rules_of t.machine))

-- the table: the machine in standard form, its states' printed names, and the table's own letters
abbrev pub standard_table : Named → Named
standard_table t =
    named_program (standardised t.machine) (map name_text (distinct_names (rules_of t.machine))) t.letters

-- the state of the name, if it is of the original machine, is below the most states of a table
abbrev pub IsSmall : Name → Type 0
IsSmall (Own s) = s < most_states
IsSmall other = Unit {0}

-- the entry of the quintuple can be written with the letters of the table
pub record IsWritable (t : Named) (r : Rule) : Type 0 where
  pub state : IsSmall r.state
  pub read : r.read < t.machine.symbols
  pub write : r.write < t.machine.symbols
  pub next : IsSmall r.next
