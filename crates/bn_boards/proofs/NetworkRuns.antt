-- A run of the network of a build over its moments to its end.
use Rattle.std.specs.Prelude.{◌≡◌, ℕ, Bool}
use Rattle.bn_circuits.specs.Situations.{Situation}
use Rattle.bn_circuits.specs.declared.config.Config.{Config}
use Rattle.bn_quad.specs.Quadruples.{Configuration}
use Rattle.bn_bennett_laws.specs.Steps.{Exit, Stopped}
use Rattle.bn_network.specs.Controls.{IsNotLeft}
use Rattle.bn_network_laws.specs.Ends.{EndsBy}
use Rattle.bn_network_laws.specs.Stops.{IsStuckAtRead, StopsAtRead}
use Rattle.bn_boards.specs.Builds.{Build}
use Rattle.bn_boards.specs.Journeys.{ComesOver}
use Rattle.bn_boards.proofs.TravelLemmas.{BoardComesOver}

-- the network's end: as the machine's own exit says, where a stop is in a state that no quadruple leaves; or at the
-- read at which the machine is stuck
pub data EndsSo (f : Build) (s : Situation) (c : Configuration ℕ) (e : Exit) : Type 0 where
  early : (e ≡ Stopped → IsNotLeft f.machine c.state) → EndsBy f.machine f.limits f.names s c e → EndsSo f s c e
  at_read : (t : ℕ) (stop : IsStuckAtRead f.machine c t) → e ≡ Stopped
      → StopsAtRead f.machine f.limits f.names s c t stop.rule → EndsSo f s c e

-- the network's run from a start over the machine's own to its end
abbrev pub NetworkComes : Build → (Situation → Bool) → Situation → Configuration ℕ → ℕ → Configuration ℕ → Exit → Type 0
NetworkComes f test start c n d e = ComesOver f test start c n d (λ s. EndsSo f s d e)

-- and the board's
abbrev pub BoardComes : Build → Situation → Config → ℕ → Configuration ℕ → Exit → Type 0
BoardComes f start at_start n d e = BoardComesOver f start at_start n (λ s. EndsSo f s d e)
