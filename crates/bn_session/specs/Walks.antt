-- A watched walk, step by step.
use Rattle.std.specs.Prelude.{ℕ, Bool, if◌then◌else◌}
use Rattle.std.proofs.Common.{zero, suc}
use Rattle.bn_circuits.specs.Circuits.{Circuit}
use Rattle.bn_circuits.specs.Stepping.{advance, retreat}
use Rattle.bn_circuits.specs.declared.config.Config.{Config}
use Rattle.bn_packed.specs.declared.direction.Direction.{Direction}
use Rattle.bn_packed.specs.declared.direction.Direction.TheVariants.{Forward, Backward}

-- one step in this direction, if there is one
abbrev pub once_along : Direction → Circuit → Config → Config
once_along Forward k c = advance k c
once_along Backward k c = retreat k c

-- at most this many steps, and none after one at which the test holds
unfoldable pub walk : (Config → Bool) → (Config → Config) → ℕ → Config → Config
walk test once zero c = c
walk test once (suc e) c = if test (once c) then once c else walk test once e (once c)
