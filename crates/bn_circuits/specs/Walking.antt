-- Runs with a watch.
use Rattle.std.specs.Prelude.{ℕ, List, Option}
use Rattle.bn_lists.specs.Runs.{Reaches}
use Rattle.bn_circuits.specs.Circuits.{Circuit, IsConfig, Goes}
use Rattle.bn_circuits.specs.Stepping.{places, places_back}
use Rattle.bn_circuits.specs.declared.place.Place.{Place}
use Rattle.bn_circuits.specs.declared.config.Config.{Config}
use Rattle.bn_circuits.specs.Watching.{Hears}

-- Exactly `made` steps lead from c to d, which is a configuration, and the watch received the place after each.
pub record HasWalked (k : Circuit) (c d : Config) (made : ℕ) (old new : Option (List Place)) : Type 0 where
  pub reaches : Reaches (Goes k) made c d
  pub good : IsConfig k d
  pub heard : Hears old (places k made c) new

-- Exactly `made` steps back lead from c to d, which is a configuration, and the watch received the place after each.
pub record HasWalkedBack (k : Circuit) (c d : Config) (made : ℕ) (old new : Option (List Place)) : Type 0 where
  pub reaches : Reaches (Goes k) made d c
  pub good : IsConfig k d
  pub heard : Hears old (places_back k made c) new
