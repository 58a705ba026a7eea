-- The statements of this crate's laws on the search alone, each a field of `Laws`.
use Rattle.std.specs.Prelude.{◌≡◌, ℕ, ◌+◌, ◌*◌, ◌<◌, ◌≤◌, List, length}
use Rattle.bn_base.specs.declared.limits.TheConstants.{MOST_COUNT}
use Rattle.bn_lists.specs.Runs.{Reaches}
use Rattle.bn_machine.specs.Machine.{Program}
use Rattle.bn_machine.specs.Outcome.{Limits, Halted, Stuck, Outside, HasOutcome}
use Rattle.bn_machine.specs.declared.quint.Side.{Side}
use Rattle.bn_circuits.specs.declared.net.TheConstants.{MOST_ELEMENTS}
use Rattle.bn_bennett_laws.specs.Stages.{IsStandardMachine}
use Rattle.bn_table.specs.Rows.{FitsTable}
use Rattle.bn_network.specs.Limits.{AreSmall}
use Rattle.bn_reply_relations.specs.Windows.{CountsElements}
use Rattle.bn_network_assembly.specs.Widening.{IsEnd, IsWhole, cells, first_window, number_at, widened}
use Rattle.bn_headline.specs.Searches.{Finding, Found, HasBoard, HasFinding, Large, Widens}

-- a bounded run ends in one of four ways alone
abbrev pub EndsAreFour : Type 0
EndsAreFour = (p : Program) (word : List ℕ) (w : Limits) (i tape : ℕ) (side : Side)
    → HasOutcome p word w i (Outside tape side) → IsEnd tape side

-- each doubling adds at least one cell
abbrev pub CellsGrow : Type 0
CellsGrow = (w : Limits) (tape : ℕ) (side : Side) → IsWhole w → IsEnd tape side
    → cells w + 1 ≤ cells (widened w tape side)

-- a cell has at least 22 elements: a circuit has as many for each of its cells, and each doubling adds as many
abbrev pub ElementsGrow : Type 0
ElementsGrow =
    ((p : Program) (w : Limits) (count : ℕ) → IsStandardMachine p → CountsElements p w count → 22 * cells w ≤ count)
    × ((p : Program) (w : Limits) (tape : ℕ) (side : Side) (count more : ℕ) → IsStandardMachine p → IsWhole w
    → IsEnd tape side → CountsElements p w count → CountsElements p (widened w tape side) more → count + 22 ≤ more)

-- a window whose circuit is not too large can be widened at each end
abbrev pub NumbersStayLow : Type 0
NumbersStayLow = (p : Program) (w : Limits) (tape : ℕ) (side : Side) → IsStandardMachine p → HasBoard p w
    → number_at w tape side ≤ 524288

-- the search ends, after at most one round more than the greatest number of elements
abbrev pub SearchEnds : Type 0
SearchEnds = (p : Program) (word : List ℕ) → IsStandardMachine p → FitsTable p
    → (n : ℕ) × (a : Finding) × HasFinding p word n a

abbrev pub SearchIsShort : Type 0
SearchIsShort = (p : Program) (word : List ℕ) (n : ℕ) (a : Finding) → IsStandardMachine p → FitsTable p
    → HasFinding p word n a → n ≤ MOST_ELEMENTS + 1

-- it has one result, after one number of rounds
abbrev pub SearchIsOne : Type 0
SearchIsOne = (p : Program) (word : List ℕ) (n m : ℕ) (a b : Finding) → HasFinding p word n a → HasFinding p word m b
    → (n ≡ m) × (a ≡ b)

-- Each window on the way has numbers from 1 on and room for the word; if the word does not have too many letters, the
-- window is within the limits.
pub record IsOnTheWay (word : List ℕ) (w : Limits) : Type 0 where
  pub whole : IsWhole w
  pub fits : length word ≤ w.right
  pub small : length word ≤ MOST_COUNT → AreSmall w

abbrev pub WindowsAreWhole : Type 0
WindowsAreWhole = (p : Program) (word : List ℕ) (n : ℕ) (w : Limits) → IsStandardMachine p
    → Reaches (Widens p word) n (first_window word) w → IsOnTheWay word w

-- the bounded run halts with an output, or is stuck
pub data ComesInside (p : Program) (word : List ℕ) (w : Limits) : Type 0 where
  halted : (i : ℕ) (y : List ℕ) → HasOutcome p word w i (Halted y) → ComesInside p word w
  stuck : (i state symbol : ℕ) → HasOutcome p word w i (Stuck state symbol) → ComesInside p word w

-- the circuit of a window that is found is not too large, and the bounded run in it halts or is stuck
abbrev pub FoundComesOut : Type 0
FoundComesOut = (p : Program) (word : List ℕ) (n : ℕ) (w : Limits) → HasFinding p word n (Found w)
    → HasBoard p w × ComesInside p word w

-- a number that is found in place of a window is that of the last window's circuit, which is too large
abbrev pub LargeIsTooLarge : Type 0
LargeIsTooLarge = (p : Program) (word : List ℕ) (n c : ℕ) → (h : HasFinding p word n (Large c))
    → (MOST_ELEMENTS < c) × CountsElements p h.last c
