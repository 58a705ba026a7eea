-- The list that converts a machine whose run begins on the first letter to standard form (this project's own profile;
-- standard form is after Bennett 1973): quintuples with names for states (`Rule`). Symbol 0 is the blank.
use Rattle.std.specs.Prelude.{ℕ, zero, suc, ◌-◌, List, [], ◌∷◌, ◌++◌, map}
use Rattle.bn_machine.specs.Machine.{Program, start_of, final_of}
use Rattle.bn_machine.specs.declared.quint.Quint.{Quint}
use Rattle.bn_machine.specs.declared.quint.Shift.TheVariants.{Left, Stay, Right}
use Rattle.bn_standardise.specs.declared.name.Name.TheVariants.{First, Own, Last}
use Rattle.bn_standardise.specs.declared.rule.Rule.{Rule}

-- the first quintuple steps from the blank before the word onto its first letter
abbrev pub entering : ℕ → Rule
entering start = record { state = First; read = 0; write = 0; shift = Right; next = Own start }

-- a quintuple of the original machine, with names for its states
abbrev pub own_rule : Quint → Rule
own_rule q = record { state = Own q.state; read = q.read; write = q.write; shift = q.shift; next = Own q.next }

-- the halted machine steps back over a letter
abbrev pub back_over : ℕ → ℕ → Rule
back_over halt letter = record { state = Own halt; read = letter; write = letter; shift = Left; next = Own halt }

-- the quintuples that step back over `count` letters, from the letter `first` on
unfoldable pub back_over_all : ℕ → ℕ → ℕ → List Rule
back_over_all halt first zero = []
back_over_all halt first (suc count) = back_over halt first ∷ back_over_all halt (suc first) count

-- the last quintuple ends at the blank before the letters
abbrev pub leaving : ℕ → Rule
leaving halt = record { state = Own halt; read = 0; write = 0; shift = Stay; next = Last }

-- the machine's own quintuples, and those that step back over a symbol, one for each symbol but the blank
abbrev pub middle_of : Program → List Rule
middle_of p = map own_rule p.quints ++ back_over_all (final_of p.quints) 1 (p.symbols - 1)

-- the list; the machine's halting state is the next state of its last quintuple
abbrev pub rules_of : Program → List Rule
rules_of p = entering (start_of p.quints) ∷ (middle_of p ++ leaving (final_of p.quints) ∷ [])
