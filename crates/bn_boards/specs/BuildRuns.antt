-- A run of a build from a start to its end: of the machine in the window, and of the circuit (own to this project).
use Rattle.std.specs.Prelude.{◌≡◌, ℕ, ◌+◌, ◌*◌, ◌≤◌, List}
use Rattle.bn_lists.specs.Runs.{Reaches}
use Rattle.bn_circuits.specs.Circuits.{Goes, IsStuck}
use Rattle.bn_circuits.specs.Situations.{Situation}
use Rattle.bn_circuits.specs.Stepping.{run}
use Rattle.bn_circuits.specs.declared.config.Config.{Config}
use Rattle.bn_circuits.specs.declared.place.Place.{Place}
use Rattle.bn_quad.specs.Quadruples.{Configuration, QuadruplesRunTo, final_state_of}
use Rattle.bn_bennett_laws.specs.Stages.{rooms_of}
use Rattle.bn_bennett_laws.specs.Steps.{EndsAt, Exit}
use Rattle.bn_boards.specs.Layouts.{moments, spelled_by, spelled_config}
use Rattle.bn_boards.specs.Builds.{Build, build_elements}
use Rattle.bn_boards.specs.Costs.{HasNetworkCost}
use Rattle.bn_boards.specs.Exits.{BoardLeaves}

-- the machine's own run in the window: n steps lead from c to d, and the run ends there in this way
pub record EndsInWindow (f : Build) (c : Configuration ℕ) (n : ℕ) (d : Configuration ℕ) (e : Exit) : Type 0 where
  pub runs : Reaches (QuadruplesRunTo (rooms_of f.limits) f.machine) n c d
  pub ends : EndsAt (rooms_of f.limits) f.machine.rules (final_state_of f.machine.rules) d e

-- The circuit runs in exactly its cost, which the number of the machine's steps bounds, to the exit that the
-- machine's own run determines. There the cells show the machine's tapes, and the circuit has been at one moment more
-- than the machine makes steps.
pub record BuildRunsTo (f : Build) (start : Situation) (at_start : Config) (n : ℕ) (d : Configuration ℕ)
    (e : Exit) : Type 0 where
  pub cost : ℕ
  pub has_cost : HasNetworkCost f start cost
  pub bounded : cost ≤ 4 * build_elements f + 48 * build_elements f * (n + 1)
  pub run_to : Reaches (Goes f.circuit) cost at_start (run f.circuit at_start cost)
  pub ended : IsStuck f.circuit (run f.circuit at_start cost)
  pub leaves : BoardLeaves f (run f.circuit at_start cost).place (run f.circuit at_start cost).states d e
  pub count : moments f.layout f.circuit cost at_start ≡ n + 1

-- The circuit is at a moment of state a: some steps of the machine's own run from c in the window lead to a
-- configuration in that state, and the cells show its tapes.
pub record ShowsMoment (f : Build) (c : Configuration ℕ) (a : ℕ) (states : List ℕ) : Type 0 where
  pub steps : ℕ
  pub config : Configuration ℕ
  pub runs : Reaches (QuadruplesRunTo (rooms_of f.limits) f.machine) steps c config
  pub state : config.state ≡ a
  pub spells : spelled_by f.layout states ≡ spelled_config f.limits config

-- The signal has left: the machine's own run from c in the window has ended, and the signal has left the circuit by
-- the exit of that end.
pub record HasLeft (f : Build) (c : Configuration ℕ) (p : Place) (states : List ℕ) : Type 0 where
  pub steps : ℕ
  pub final : Configuration ℕ
  pub exit : Exit
  pub ends : EndsInWindow f c steps final exit
  pub leaves : BoardLeaves f p states final exit
