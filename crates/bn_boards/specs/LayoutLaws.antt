-- The statements of this crate's laws, each a field of `Laws`.
use Rattle.std.specs.Prelude.{◌≡◌, ◌≢◌, ℕ, ◌*◌, ◌<◌, Bool, List, slice_get}
use Rattle.bn_circuits.specs.Alike.{AreAlike}
use Rattle.bn_circuits.specs.Situations.{Situation}
use Rattle.bn_circuits.specs.declared.place.Place.{Place}
use Rattle.bn_machine.specs.Machine.{Program}
use Rattle.bn_machine.specs.Outcome.{Limits}
use Rattle.bn_bennett_laws.specs.Stages.{IsStandardMachine}
use Rattle.bn_realise.specs.Banks.{bottom_at}
use Rattle.bn_network.specs.Cells.{cell_line_count}
use Rattle.bn_network.specs.Networks.{cells_in}
use Rattle.bn_boards.specs.Layouts.{IsNamedExit, symbol_count_at, cell_element, end_place}
use Rattle.bn_boards.specs.Flats.{Flat, IsFlatOf, IsAccepted, flat_start, AreSameFlats}
use Rattle.bn_boards.specs.Readings.{BoardReads}
use Rattle.bn_boards.specs.declared.exit.Exit.{Exit}

-- two circuits of one machine, word and limits are the same up to the order of wires
abbrev pub FlatsAreOne : Type 0
FlatsAreOne = (p : Program) (word : List ℕ) (l : Limits) (f g : Flat) → IsStandardMachine p → IsFlatOf p word l f
    → IsFlatOf p word l g → AreSameFlats f g

-- a place has at most one named exit
abbrev pub ExitsAreOne : Type 0
ExitsAreOne = (p : Program) (word : List ℕ) (l : Limits) (f : Flat) → IsFlatOf p word l f → IsAccepted p word l f
    → (at : Place) (e x : Exit) → IsNamedExit f.layout at e → IsNamedExit f.layout at x → e ≡ x

-- the network's moments, exits and tapes can be read from its circuit
abbrev pub BoardsRead : Type 0
BoardsRead = (p : Program) (word : List ℕ) (l : Limits) (f : Flat) → IsFlatOf p word l f → IsAccepted p word l f
    → (test : Situation → Bool) × BoardReads f test

-- two words on one machine in one window: the circuits have the same place at the start, and differ only in bars of
-- tape 1's cells
abbrev pub WordsDifferInCells : Type 0
WordsDifferInCells =
    (p : Program) (word other : List ℕ) (l : Limits) (f g : Flat) → IsFlatOf p word l f → IsFlatOf p other l g
    → IsAccepted p word l f → IsAccepted p other l g
    → ((flat_start f).place ≡ (flat_start g).place)
    × ((e : ℕ) → ((j c : ℕ) → c < cells_in l 1 → j < 2 * symbol_count_at f.layout 1
    → e ≢ bottom_at (cell_element f.layout 1 c) (cell_line_count (symbol_count_at f.layout 1)) j)
    → slice_get (flat_start f).states e ≡ slice_get (flat_start g).states e)

-- the circuits of two words have the same wires and elements, the same layout, and the same end place
abbrev pub WordsShareBoards : Type 0
WordsShareBoards =
    (p : Program) (word other : List ℕ) (l : Limits) (f g : Flat) → IsStandardMachine p → IsFlatOf p word l f
    → IsFlatOf p other l g
    → AreAlike f.circuit g.circuit × (f.layout ≡ g.layout) × (end_place f.layout ≡ end_place g.layout)
