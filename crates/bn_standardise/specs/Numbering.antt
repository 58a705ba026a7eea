-- Numbers for the names of states, by first appearance in a list of quintuples with names (`Rule`).
use Rattle.std.specs.Prelude.{ℕ, suc, Bool, true, false, ◌==◌, cond, List, [], ◌∷◌, ◌++◌, length, if◌then◌else◌}
use Rattle.std.specs.List.{list_any}
use Rattle.bn_csv.specs.Numbering.{firsts_by}
use Rattle.bn_standardise.specs.declared.name.Name.{Name}
use Rattle.bn_standardise.specs.declared.name.Name.TheVariants.{First, Own, Last}
use Rattle.bn_standardise.specs.declared.rule.Rule.{Rule}

-- whether two names are the same
abbrev pub is_same : Name → Name → Bool
is_same First First = true
is_same (Own s) (Own t) = s == t
is_same Last Last = true
is_same a b = false

-- the names in the order in which they appear: in each quintuple its state, then its next state
abbrev pub names_of : List Rule → List Name
names_of [] = []
names_of (r ∷ rs) = r.state ∷ r.next ∷ names_of rs

-- the distinct names, each at its number
abbrev pub distinct_names : List Rule → List Name
distinct_names rs = firsts_by is_same (names_of rs)

-- these names and, if the name is new, this name at the end
abbrev pub with_name : List Name → Name → List Name
with_name names name = if list_any (is_same name) names then names else names ++ name ∷ []

-- the place of a name among others, counted from 0
abbrev pub place_of : List Name → Name → ℕ
place_of [] n = 0
place_of (m ∷ ms) n = cond (is_same m n) 0 (suc (place_of ms n))

-- the number of a name by first appearance in the list
abbrev pub number_of : List Rule → Name → ℕ
number_of rs n = place_of (distinct_names rs) n

-- the number of states in the list
abbrev pub states_of : List Rule → ℕ
states_of rs = length (distinct_names rs)
