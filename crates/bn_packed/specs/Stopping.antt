-- Runs that stop early if the signal is about to enter one of some ports.
use Rattle.std.specs.Prelude.{◌≡◌, ◌⊎◌, ◌<◌, ◌≤◌, Bool, true, false, not, ℕ}
use Rattle.bn_lists.specs.Runs.{Reaches, Passes}
use Rattle.bn_circuits.specs.Circuits.{Circuit, IsConfig, Goes, IsStuck}
use Rattle.bn_circuits.specs.declared.line.Line.{Line}
use Rattle.bn_circuits.specs.declared.place.Place.{Place}
use Rattle.bn_circuits.specs.declared.place.Place.TheVariants.{Enter, Left}
use Rattle.bn_circuits.specs.declared.config.Config.{Config}

-- the signal is about to enter one of these ports
abbrev pub stops_at : (Line → Bool) → Place → Bool
stops_at stops (Enter e l) = stops (record { element = e; line = l })
stops_at stops (Left e l) = false

-- the signal is about to enter a port that is not one of these
abbrev pub passes_by : (Line → Bool) → Place → Bool
passes_by stops (Enter e l) = not (stops (record { element = e; line = l }))
passes_by stops (Left e l) = false

-- exactly this many steps lead from c to d, and strictly between the two the signal was about to enter a port that is
-- not one of these
abbrev pub PassesBy : Circuit → (Line → Bool) → ℕ → Config → Config → Type 0
PassesBy k stops made c d = Passes (Goes k) (λ (x : Config). passes_by stops x.place) made c d

-- A run of at most e steps, which made n, from c to d, and which stops after a step if the signal is about to enter
-- one of these ports. It stops at none before d. If n is less than e, no step can be made from d, or the run stopped
-- there. If a step was requested and can be made, at least one was made. And d is a configuration.
pub record IsStoppedRun (k : Circuit) (stops : Line → Bool) (e n : ℕ) (c d : Config) : Type 0 where
  pub bound : n ≤ e
  pub made : Reaches (Goes k) n c d
  pub between : PassesBy k stops n c d
  pub ended : n < e → IsStuck k d ⊎ (stops_at stops d.place ≡ true)
  pub moves : 0 < e → (0 < n) ⊎ IsStuck k c
  pub good : IsConfig k d
