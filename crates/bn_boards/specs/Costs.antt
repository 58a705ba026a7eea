-- The cost of a circuit's run, and a bound on it: numbers of element steps (own to this project).
use Rattle.std.specs.Prelude.{◌≡◌, ℕ, ◌+◌, ◌*◌}
use Rattle.bn_lists.specs.Runs.{Reaches}
use Rattle.bn_circuits.specs.Situations.{Situation, Turns, IsAtEnd}
use Rattle.bn_rsm.specs.RunCosts.{run_cost}
use Rattle.bn_boards.specs.Layouts.{Layout, elements_of}
use Rattle.bn_boards.specs.Builds.{Build}
use Rattle.bn_boards.specs.Flats.{Flat, build_of, situation_at_start}

-- the cost: the sum of the costs of the network's moves to its end, including the path to the loose port where the
-- run stops
pub record HasNetworkCost (f : Build) (start : Situation) (cost : ℕ) : Type 0 where
  pub moves : ℕ
  pub last : Situation
  pub run : Reaches (Turns f.network) moves start last
  pub ended : IsAtEnd f.network last
  pub is : cost ≡ run_cost f.network (moves + 1) start

-- the cost of the run from the word
abbrev pub HasCost : Flat → ℕ → Type 0
HasCost f cost = HasNetworkCost (build_of f) (situation_at_start f) cost

-- a bound on the cost of every circuit with this layout: at most 4n + 4r + 6 steps of the machine of quadruples are
-- begun, for n history cells and r output cells after the first, and each takes at most six commands
abbrev pub bound_of : Layout → ℕ
bound_of b = 48 * elements_of b * (4 * b.limits.steps + 4 * b.limits.output + 7)
