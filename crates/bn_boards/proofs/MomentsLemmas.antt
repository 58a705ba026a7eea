-- The moments of a board: at the sums of the network's costs alone, one more for each step of the machine of
-- quadruples; never two marks in a bank, never two heads on a tape.
use Rattle.std.specs.Prelude.{◌≡◌, ◌↔◌, ℕ, ◌*◌, ◌<◌, ◌≤◌, List, Some, slice_get}
use Rattle.bn_element.specs.Tables.{Table}
use Rattle.bn_circuits.specs.Circuits.{clock}
use Rattle.bn_circuits.specs.Stepping.{run}
use Rattle.bn_element.specs.Rotary.{horizontal}
use Rattle.bn_machine.specs.Machine.{Program}
use Rattle.bn_machine.specs.Outcome.{Limits}
use Rattle.bn_realise.specs.Banks.{bottom_at}
use Rattle.bn_network.specs.Cells.{cell_line_count}
use Rattle.bn_network.specs.Networks.{cells_in}
use Rattle.bn_boards.specs.Boards.{base}
use Rattle.bn_boards.specs.Layouts.{moment_at, symbol_count_at, cell_element}
use Rattle.bn_boards.specs.BoardMoments.{IsBoardMoment}
use Rattle.bn_boards.specs.Flats.{Flat, machine_of, IsFlatOf, IsAccepted, flat_start}
use Rattle.bn_boards.specs.Costs.{HasCost}
use Rattle.bn_boards.specs.Moments.{MomentOnBoard}

-- the board is at a moment exactly at the sums of costs at which the network is at one
abbrev pub MomentsStandAtSums : Type 0
MomentsStandAtSums =
    (p : Program) (word : List ℕ) (l : Limits) (f : Flat) (cost : ℕ) → IsFlatOf p word l f → IsAccepted p word l f
    → HasCost f cost → cost ≤ clock
    → (t a : ℕ) → t ≤ cost → (moment_at f.layout (run f.circuit (flat_start f) t) ≡ Some a) ↔ MomentOnBoard f t a

-- at no step two columns of a bank are marked
abbrev pub BanksHaveOneMark : Type 0
BanksHaveOneMark =
    (p : Program) (word : List ℕ) (l : Limits) (f : Flat) (cost : ℕ) → IsFlatOf p word l f → IsAccepted p word l f
    → HasCost f cost → cost ≤ clock
    → (t m j i : ℕ) (u : Table) → t ≤ cost → slice_get f.network.tables m ≡ Some u → j < u.states → i < u.states
    → slice_get (run f.circuit (flat_start f) t).states (bottom_at (base f.network.tables m) u.inputs j)
    ≡ Some horizontal
    → slice_get (run f.circuit (flat_start f) t).states (bottom_at (base f.network.tables m) u.inputs i)
    ≡ Some horizontal → i ≡ j

-- at no step two cells of a tape show a head
abbrev pub TapesHaveOneHead : Type 0
TapesHaveOneHead =
    (p : Program) (word : List ℕ) (l : Limits) (f : Flat) (cost : ℕ) → IsFlatOf p word l f → IsAccepted p word l f
    → HasCost f cost → cost ≤ clock
    → (t tape p q i j : ℕ) → t ≤ cost → 0 < tape → tape ≤ 3 → p < cells_in l tape → q < cells_in l tape
    → symbol_count_at f.layout tape ≤ i → i < 2 * symbol_count_at f.layout tape → symbol_count_at f.layout tape ≤ j
    → j < 2 * symbol_count_at f.layout tape
    → slice_get (run f.circuit (flat_start f) t).states (bottom_at (cell_element f.layout tape p)
    (cell_line_count (symbol_count_at f.layout tape)) i) ≡ Some horizontal
    → slice_get (run f.circuit (flat_start f) t).states (bottom_at (cell_element f.layout tape q)
    (cell_line_count (symbol_count_at f.layout tape)) j) ≡ Some horizontal → p ≡ q

-- at each step of the board's run
abbrev pub RunsTellMoments : Type 0
RunsTellMoments =
    (p : Program) (word : List ℕ) (l : Limits) (f : Flat) (cost : ℕ) → IsFlatOf p word l f → IsAccepted p word l f
    → HasCost f cost → cost ≤ clock
    → (t a : ℕ) → t ≤ cost
    → (moment_at f.layout (run f.circuit (flat_start f) t) ≡ Some a)
    ↔ IsBoardMoment (machine_of f) l f.names f.network (run f.circuit (flat_start f) t) a

-- so the board is at a moment exactly at the sums of costs at which the network is at one, in words that know no layout
abbrev pub BoardMomentsAreSums : Type 0
BoardMomentsAreSums =
    (p : Program) (word : List ℕ) (l : Limits) (f : Flat) (cost : ℕ) → IsFlatOf p word l f → IsAccepted p word l f
    → HasCost f cost → cost ≤ clock
    → (t a : ℕ) → t ≤ cost
    → IsBoardMoment (machine_of f) l f.names f.network (run f.circuit (flat_start f) t) a ↔ MomentOnBoard f t a
