-- The names of the erasing machine's states that can be printed.
use Rattle.std.specs.Prelude.{◌≡◌, ℕ, ◌<◌, ◌^◌, List, length, Some, slice_get}
use Rattle.bn_bennett.specs.Printed.{print_of}
use Rattle.bn_bennett_laws.specs.declared.name.Name.{Name}
use Rattle.bn_erase_laws.specs.declared.name.ErasingName.{ErasingName}
use Rattle.bn_erase_laws.specs.declared.name.ErasingName.TheVariants.{First, Second}

-- the name in its own machine
abbrev pub own_name : ErasingName → Name
own_name (First name) = name
own_name (Second name) = name

-- there are fewer than 2^32 names, all distinct, and none is printed with a number of 2^62 or more
pub record ArePrintable (names : List ErasingName) : Type 0 where
  pub few : length names < 2 ^ 32
  pub apart : (m n : ℕ) (name : ErasingName) → slice_get names m ≡ Some name → slice_get names n ≡ Some name → m ≡ n
  pub small : (n : ℕ) (name : ErasingName) → slice_get names n ≡ Some name → (print_of (own_name name)).number < 2 ^ 62
