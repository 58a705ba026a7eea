-- Runs in either direction, of at most a given number of steps, which stop early only if no further step can be made.
use Rattle.std.specs.Prelude.{◌≡◌, ℕ, ◌<◌, ◌≤◌, List}
use Rattle.bn_lists.specs.Runs.{Reaches}
use Rattle.bn_circuits.specs.Circuits.{Circuit, IsConfig, Goes, IsStuck, IsFirst}
use Rattle.bn_circuits.specs.Stepping.{run, back, places, places_back}
use Rattle.bn_circuits.specs.declared.config.Config.{Config}
use Rattle.bn_circuits.specs.declared.place.Place.{Place}
use Rattle.bn_packed.specs.declared.direction.Direction.{Direction}
use Rattle.bn_packed.specs.declared.direction.Direction.TheVariants.{Forward, Backward}

-- one step in this direction leads from c to d
abbrev pub GoesTo : Direction → Circuit → Config → Config → Type 0
GoesTo Forward k c d = Goes k c d
GoesTo Backward k c d = Goes k d c

-- exactly n steps in this direction lead from c to d
abbrev pub LeadsTo : Direction → Circuit → ℕ → Config → Config → Type 0
LeadsTo Forward k n c d = Reaches (Goes k) n c d
LeadsTo Backward k n c d = Reaches (Goes k) n d c

-- no step in this direction can be made from c
abbrev pub IsAtEnd : Direction → Circuit → Config → Type 0
IsAtEnd Forward k c = IsStuck k c
IsAtEnd Backward k c = IsFirst k c

-- the configuration e steps after c in this direction; if fewer can be made, the last one
abbrev pub run_along : Direction → Circuit → Config → ℕ → Config
run_along Forward k c e = run k c e
run_along Backward k c e = back k c e

-- the same against this direction
abbrev pub run_against : Direction → Circuit → Config → ℕ → Config
run_against Forward k c e = back k c e
run_against Backward k c e = run k c e

-- the places after each of at most e steps in this direction
abbrev pub places_along : Direction → Circuit → ℕ → Config → List Place
places_along Forward k e c = places k e c
places_along Backward k e c = places_back k e c

-- A run in this direction of at most e steps, which made n, from c to d: if n is less than e, no further step can be
-- made from d; n steps against the direction lead from d back to c; and d is a configuration.
pub record IsLongestRun (way : Direction) (k : Circuit) (e n : ℕ) (c d : Config) : Type 0 where
  pub bound : n ≤ e
  pub made : LeadsTo way k n c d
  pub ended : n < e → IsAtEnd way k d
  pub ends : d ≡ run_along way k c e
  pub undone : run_against way k d n ≡ c
  pub good : IsConfig k d
