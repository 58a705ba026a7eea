-- Searches for the first quintuple with a property.
use Rattle.std.specs.Prelude.{◌≡◌, ℕ, ◌<◌, List, Some}
use Rattle.bn_lists.specs.Lists.{nth, IsLeast}
use Rattle.bn_machine.specs.declared.quint.Quint.{Quint}
use Rattle.bn_machine.specs.Standard.{Repeats}

-- no quintuple numbered below n has the property
pub record NoneBefore (P : ℕ → Quint → Type 0) (qs : List Quint) (n : ℕ) : Type 0 where
  pub none : (m : ℕ) (q : Quint) → m < n → nth qs m ≡ Some q → P m q → ⊥

-- no quintuple repeats quintuple i
pub record HasNoRepeat (qs : List Quint) (i : ℕ) : Type 0 where
  pub none : (j : ℕ) → Repeats qs i j → ⊥

-- quintuple j repeats quintuple i, and none before j does
abbrev pub IsLeastSecond : List Quint → ℕ → ℕ → Type 0
IsLeastSecond qs i = IsLeast (Repeats qs i)
