-- Runs of a circuit: where `run` ends.
use Rattle.std.specs.Prelude.{ℕ, ◌<◌, ◌≤◌}
use Rattle.bn_lists.specs.Runs.{Reaches}
use Rattle.bn_circuits.specs.Circuits.{Circuit, Goes, IsStuck}
use Rattle.bn_circuits.specs.declared.config.Config.{Config}

module _ (k : Circuit) where
  -- d is reached from c in some number of steps, at most t, and fewer only if no step leads on from d.
  pub record Makes (c : Config) (t : ℕ) (d : Config) : Type 0 where
    pub made : ℕ
    pub within : made ≤ t
    pub reaches : Reaches (Goes k) made c d
    pub ended : made < t → IsStuck k d
