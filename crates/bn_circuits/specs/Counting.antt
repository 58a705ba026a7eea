-- How often a test holds along a run.
use Rattle.std.specs.Prelude.{◌≡◌, ℕ, ◌+◌, ◌<◌, Bool, if◌then◌else◌, not}
use Rattle.std.specs.Option.{option_map_or}
use Rattle.std.proofs.Common.{zero, suc}
use Rattle.bn_lists.specs.Runs.{Reaches, Passes}
use Rattle.bn_circuits.specs.Circuits.{Circuit, Goes}
use Rattle.bn_circuits.specs.Stepping.{next}
use Rattle.bn_circuits.specs.declared.config.Config.{Config}

abbrev pub one_if : Bool → ℕ
one_if b = if b then 1 else 0

-- how often the test holds of the configurations after c, over at most t steps
unfoldable pub tally : (Config → Bool) → Circuit → ℕ → Config → ℕ
tally test k zero c = 0
tally test k (suc t) c = option_map_or (λ d. one_if (test d) + tally test k t d) (next k c) 0

-- counts add up; on a path between whose ends the test holds nowhere, the count is that of its end
abbrev pub TalliesAdd : Type 0
TalliesAdd =
    ((k : Circuit) (test : Config → Bool) (m n : ℕ) (c d : Config) → Reaches (Goes k) m c d
    → tally test k (m + n) c ≡ tally test k m c + tally test k n d)
    × ((k : Circuit) (test : Config → Bool) (n : ℕ) (c d : Config) → 0 < n → Passes (Goes k) (λ x. not (test x)) n c d
    → tally test k n c ≡ one_if (test d))
