-- The read at which a machine of quadruples is stuck, and the law that its network stops there. `Laws` at the end is
-- the contract of `stop_laws`.
use Rattle.std.specs.Prelude.{◌≡◌, ℕ, ◌+◌, ◌*◌, ◌≤◌, Bool, false, List, length, ◌⊎◌}
use Rattle.bn_circuits.specs.Circuits.{Circuit}
use Rattle.bn_circuits.specs.Situations.{Situation, IsAtEnd}
use Rattle.bn_machine.specs.Outcome.{Limits}
use Rattle.bn_quad.specs.Quadruples.{Configuration, Quadruples, HasNoRule, IsQuadMachine}
use Rattle.bn_quad.specs.Calls.{IsUniformMachine}
use Rattle.bn_rsm.specs.RunCosts.{run_cost}
use Rattle.bn_network.specs.Controls.{ControlState, IsNumbering, IsNotLeft}
use Rattle.bn_network.specs.Networks.{IsNetwork, elements_by}
use Rattle.bn_network.specs.Moments.{IsMomentOf, TellsMoments, Travels}
use Rattle.bn_network_laws.specs.Stops.{IsStuckAtRead, StopsAtRead}

abbrev pub StopsAreThere : Type 0
StopsAreThere = (m : Quadruples) (c : Configuration ℕ) → HasNoRule m.rules c
    → IsNotLeft m c.state ⊎ ((t : ℕ) × IsStuckAtRead m c t)

abbrev pub StopsAreStuck : Type 0
StopsAreStuck = (m : Quadruples) (c : Configuration ℕ) → (IsNotLeft m c.state → HasNoRule m.rules c)
    × ((t : ℕ) → IsStuckAtRead m c t → HasNoRule m.rules c)

abbrev pub StopsAreOne : Type 0
StopsAreOne = (m : Quadruples) (c : Configuration ℕ) (t u : ℕ) → IsStuckAtRead m c t → IsStuckAtRead m c u → t ≡ u

-- n moves, with no moment after the first, at most at 48 element steps per element, including those of the attempt at
-- a move that does not exist
abbrev pub NetworksStop : Type 0
NetworksStop =
    (m : Quadruples) (l : Limits) (names : List ControlState) (k : Circuit) (test : Situation → Bool)
    → IsQuadMachine m → IsUniformMachine m → IsNumbering m names → IsNetwork m l names k
    → TellsMoments m names k test
    → (s : Situation) (c : Configuration ℕ) → IsMomentOf m l names k s c → (t : ℕ) (stop : IsStuckAtRead m c t)
    → (n : ℕ) × (u : Situation) × Travels k test n (48 * elements_by m l (length names)) s u
    × (run_cost k (n + 1) s ≤ 48 * elements_by m l (length names)) × IsAtEnd k u
    × StopsAtRead m l names u c t stop.rule × (test u ≡ false)

pub record Laws : Type 0 where
  -- If no quadruple applies, either no quadruple leaves the state, or the machine is stuck at the read of a tape.
  pub stops_are_there : StopsAreThere
  -- If no quadruple leaves the state, or the machine is stuck at the read of a tape, no quadruple applies.
  pub stops_are_stuck : StopsAreStuck
  -- A machine is stuck at the read of at most one tape.
  pub stops_are_one : StopsAreOne
  -- For every uniform machine and window: if a moment's configuration is stuck at a read, the network reaches the
  -- reply to this read at a bounded cost, and stops there.
  pub networks_stop : NetworksStop
