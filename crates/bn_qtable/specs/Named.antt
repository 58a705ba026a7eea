-- The names that a table needs to be written, and names that are collected tape by tape.
use Rattle.std.specs.Prelude.{◌≡◌, ℕ, zero, suc, ◌<◌, List, Bool, true, Some, slice_get, ⊤}
use Rattle.bn_csv.specs.Forms.{is_state_name, is_symbol}
use Rattle.bn_lists.specs.Lists.{nth}
use Rattle.bn_quad.specs.Names.{Naming, naming_of}
use Rattle.bn_quad.specs.Quadruples.{Quadruples, Deed, Rewrite, Move, Rule}

-- the number has a name of this form
abbrev pub IsNamed : (List ℕ → Bool) → List (List ℕ) → ℕ → Type 0
IsNamed form names n = (name : List ℕ) × (slice_get names n ≡ Some name) × (form name ≡ true)

-- each number below the count has a name of this form
pub record AreNamed (form : List ℕ → Bool) (names : List (List ℕ)) (count : ℕ) : Type 0 where
  pub each : (n : ℕ) → n < count → IsNamed form names n

-- every state and every symbol of the machine has a name with its form
pub record HasNames (p : Quadruples) (names : Naming) : Type 0 where
  pub states : AreNamed is_state_name names.states p.states
  pub one : (z : ℕ) → nth p.symbols 1 ≡ Some z → AreNamed is_symbol names.one z
  pub two : (z : ℕ) → nth p.symbols 2 ≡ Some z → AreNamed is_symbol names.two z
  pub three : (z : ℕ) → nth p.symbols 3 ≡ Some z → AreNamed is_symbol names.three z

-- the symbols of a deed have names
abbrev pub DeedIsNamed : List (List ℕ) → Deed → Type 0
DeedIsNamed names (Rewrite read written) = IsNamed is_symbol names read × IsNamed is_symbol names written
DeedIsNamed names (Move s) = ⊤

-- the states and the symbols of a quadruple have names
pub record RuleIsNamed (names : Naming) (r : Rule ℕ) : Type 0 where
  pub from : IsNamed is_state_name names.states r.from
  pub one : DeedIsNamed names.one r.one
  pub two : DeedIsNamed names.two r.two
  pub three : DeedIsNamed names.three r.three
  pub to : IsNamed is_state_name names.states r.to

-- the naming with these names for the symbols of a tape, counted from 1
abbrev pub on_tape : Naming → ℕ → List (List ℕ) → Naming
on_tape n zero names = n
on_tape n (suc zero) names = naming_of n.states names n.two n.three
on_tape n (suc (suc zero)) names = naming_of n.states n.one names n.three
on_tape n (suc (suc (suc tape))) names = naming_of n.states n.one n.two names
