-- The moments of a circuit: they occur exactly at the sums of the network's costs, one more than the machine of
-- quadruples makes steps; no bank ever has two marks, and no tape two heads.
use Rattle.std.specs.Prelude.{◌≡◌, ◌↔◌, ℕ, ◌+◌, ◌*◌, ◌<◌, ◌≤◌, List, Some, slice_get}
use Rattle.bn_element.specs.Tables.{Table}
use Rattle.bn_lists.specs.Runs.{Reaches}
use Rattle.bn_circuits.specs.Stepping.{run}
use Rattle.bn_circuits.specs.declared.config.Config.{Config}
use Rattle.bn_element.specs.Rotary.{horizontal}
use Rattle.bn_machine.specs.Machine.{Program}
use Rattle.bn_machine.specs.Outcome.{Limits}
use Rattle.bn_quad.specs.Quadruples.{Configuration}
use Rattle.bn_bennett_laws.specs.Stages.{rooms_of}
use Rattle.bn_bennett.specs.Runs.{Runs}
use Rattle.bn_realise.specs.Banks.{bottom_at}
use Rattle.bn_circuits.specs.Situations.{Situation, Turns}
use Rattle.bn_rsm.specs.RunCosts.{run_cost}
use Rattle.bn_network.specs.Cells.{cell_line_count}
use Rattle.bn_network.specs.Networks.{cells_in}
use Rattle.bn_network.specs.Moments.{IsMoment, IsMomentOf}
use Rattle.bn_boards.specs.Boards.{StandsFor, base}
use Rattle.bn_boards.specs.Layouts.{moment_at, moments, symbol_count_at, cell_element}
use Rattle.bn_boards.specs.BoardMoments.{IsBoardMoment, HasOneState}
use Rattle.bn_boards.specs.Flats.{Flat, machine_of, IsFlatOf, IsAccepted, situation_at_start, flat_start}
use Rattle.bn_boards.specs.Costs.{HasCost}
use Rattle.bn_boards.specs.BoardRuns.{BoardSpells}

-- if the circuit represents a situation of the network, its moment is the network's
abbrev pub MomentsAreTold : Type 0
MomentsAreTold =
    (p : Program) (word : List ℕ) (l : Limits) (f : Flat) → IsFlatOf p word l f → IsAccepted p word l f
    → (s : Situation) (d : Config) (a : ℕ) → StandsFor f.network s d
    → (moment_at f.layout d ≡ Some a) ↔ IsMoment (machine_of f) f.names f.network s a

-- After t steps the circuit is at the moment of a: t is the cost of the network's moves to its moment of a; the
-- machine is in a after one step fewer than the number of moments so far; the network shows its tapes, and so do the
-- circuit's cells.
pub record MomentOnBoard (f : Flat) (t a : ℕ) : Type 0 where
  pub moves : ℕ
  pub at : Situation
  pub run_at : Reaches (Turns f.network) moves (situation_at_start f) at
  pub sum : t ≡ run_cost f.network moves (situation_at_start f)
  pub moment : IsMoment (machine_of f) f.names f.network at a
  pub steps : ℕ
  pub count : moments f.layout f.circuit t (flat_start f) ≡ steps + 1
  pub config : Configuration ℕ
  pub runs : Runs f.translation f.word (rooms_of f.limits) steps config
  pub state : config.state ≡ a
  pub shows : IsMomentOf (machine_of f) f.limits f.names f.network at config
  pub spells : BoardSpells f (run f.circuit (flat_start f) t).states config

-- the moment that the layout finds is the circuit's moment
abbrev pub MomentsAreByMarks : Type 0
MomentsAreByMarks =
    (p : Program) (word : List ℕ) (l : Limits) (f : Flat) → IsFlatOf p word l f → IsAccepted p word l f
    → (d : Config) (a : ℕ) → HasOneState f d
    → (moment_at f.layout d ≡ Some a) ↔ IsBoardMoment (machine_of f) l f.names f.network d a

-- Up to its cost a circuit is at a moment exactly at the sums of costs at which its network is at one, both by
-- `IsBoardMoment` and by the layout. At every step, also past its end, no bank has two marked columns and no tape
-- shows two heads.
pub record HasMoments (l : Limits) (f : Flat) : Type 0 where
  pub sums : (cost t a : ℕ) → HasCost f cost → t ≤ cost
      → IsBoardMoment (machine_of f) l f.names f.network (run f.circuit (flat_start f) t) a ↔ MomentOnBoard f t a
  pub found : (cost t a : ℕ) → HasCost f cost → t ≤ cost
      → (moment_at f.layout (run f.circuit (flat_start f) t) ≡ Some a) ↔ MomentOnBoard f t a
  pub each : (moves a : ℕ) (at : Situation) → Reaches (Turns f.network) moves (situation_at_start f) at
      → IsMoment (machine_of f) f.names f.network at a
      → MomentOnBoard f (run_cost f.network moves (situation_at_start f)) a
  pub marks : (t m j i : ℕ) (u : Table) → slice_get f.network.tables m ≡ Some u → j < u.states → i < u.states
      → slice_get (run f.circuit (flat_start f) t).states (bottom_at (base f.network.tables m) u.inputs j)
      ≡ Some horizontal
      → slice_get (run f.circuit (flat_start f) t).states (bottom_at (base f.network.tables m) u.inputs i)
      ≡ Some horizontal → i ≡ j
  pub heads : (t tape p q i j : ℕ) → 0 < tape → tape ≤ 3 → p < cells_in l tape → q < cells_in l tape
      → symbol_count_at f.layout tape ≤ i → i < 2 * symbol_count_at f.layout tape → symbol_count_at f.layout tape ≤ j
      → j < 2 * symbol_count_at f.layout tape
      → slice_get (run f.circuit (flat_start f) t).states
      (bottom_at (cell_element f.layout tape p) (cell_line_count (symbol_count_at f.layout tape)) i) ≡ Some horizontal
      → slice_get (run f.circuit (flat_start f) t).states
      (bottom_at (cell_element f.layout tape q) (cell_line_count (symbol_count_at f.layout tape)) j)
      ≡ Some horizontal → p ≡ q

abbrev pub BoardsHaveMoments : Type 0
BoardsHaveMoments = (p : Program) (word : List ℕ) (l : Limits) (f : Flat) → IsFlatOf p word l f
    → IsAccepted p word l f → HasMoments l f
