-- The statements of the laws of this crate, each a field of `Laws`.
use Rattle.std.specs.Prelude.{◌≡◌, ℕ, ◌+◌, ◌<◌, ◌≤◌, Bool, true, Some, slice_get}
use Rattle.std.specs.Option.{option_map}
use Rattle.bn_lists.specs.Runs.{Reaches, Passes}
use Rattle.bn_element.specs.Tables.{Table}
use Rattle.bn_element.specs.Rotary.{horizontal, east}
use Rattle.bn_circuits.specs.Circuits.{Circuit, clock, target, Goes, line_at}
use Rattle.bn_circuits.specs.Situations.{Situation}
use Rattle.bn_circuits.specs.declared.place.Place.TheVariants.{Enter}
use Rattle.bn_circuits.specs.declared.config.Config.{Config}
use Rattle.bn_rsm.specs.Costs.{table_cost}
use Rattle.bn_realise.specs.Banks.{HasMark, IsWithinBank, bottom_at, column_at, turning_line, moved}
use Rattle.bn_boards.specs.Boards.{AreModules, IsBoard, StandsFor, base}
use Rattle.bn_leap.specs.Leaps.{IsUnderWay, IsEntered}

-- If the signal of a board that is under way enters an input port of a bank, the board represents a situation in which
-- the signal of the network enters that port of that module.
abbrev pub BoundariesStand : Type 0
BoundariesStand = (n k : Circuit) (m i : ℕ) (t : Table) (c : Config) → IsUnderWay n k c → IsEntered n m t i c
    → (s : Situation) × StandsFor n s c × (s.place ≡ Enter m i)

-- If the signal of a board that is under way enters an input port of a bank, the bank is at rest in some state.
abbrev pub BoundariesRest : Type 0
BoundariesRest = (n k : Circuit) (m i : ℕ) (t : Table) (c : Config) → IsUnderWay n k c → IsEntered n m t i c
    → HasMark c.states (base n.tables m) t.states t.inputs

-- From such a configuration, if column q is marked and the clock admits the cost, exactly the cost of the move from
-- state q leads to the end of the move: the mark is where the table leads, and the signal is where the output port
-- leads. Each test that holds of what is within the move holds strictly between.
abbrev pub BoardsLeap : Type 0
BoardsLeap =
    (n k : Circuit) (m i q : ℕ) (t : Table) (c : Config) (test : Config → Bool) → IsUnderWay n k c
    → IsEntered n m t i c → q < t.states
    → slice_get c.states (bottom_at (base n.tables m) t.inputs q) ≡ Some horizontal
    → c.steps + table_cost t q i ≤ clock
    → ((d : Config) → IsWithinBank (base n.tables m) t q i c.states d → test d ≡ true)
    → Passes (Goes k) test (table_cost t q i) c (moved k (base n.tables m) t q i c)

-- Steps keep a board under way.
abbrev pub BoardsStayUnderWay : Type 0
BoardsStayUnderWay = (n k : Circuit) (e : ℕ) (c d : Config) → IsUnderWay n k c → Reaches (Goes k) e c d
    → IsUnderWay n k d

-- In each bank of a board, the wire of the port that turns the signal back in state q and row i leads to the row of
-- the column to which the table leads. The port has no wire if the pair has no move.
abbrev pub MovesAreRead : Type 0
MovesAreRead =
    (n k : Circuit) (m q i : ℕ) (t : Table) → AreModules n → IsBoard n k → slice_get n.tables m ≡ Some t
    → q < t.states → i < t.inputs
    → target k.wires (turning_line (base n.tables m) t q i)
    ≡ option_map (λ p. line_at (column_at (base n.tables m) t.inputs p.0 + p.1) east) (t.go q i)

-- ---- the laws

pub record Laws : Type 0 where
  -- If the signal of a board that is under way enters an input port of a bank, the board represents a situation of its
  -- network.
  pub boundaries_stand : BoundariesStand
  -- If the signal of a board that is under way enters an input port of a bank, this bank is at rest in some state.
  pub boundaries_rest : BoundariesRest
  -- From such an entry, exactly the cost of the move leads to its end, and each test that holds within the move holds
  -- strictly between.
  pub boards_leap : BoardsLeap
  -- Steps keep a board under way.
  pub boards_stay_under_way : BoardsStayUnderWay
  -- The moves of a bank are determined by the wires of its board, which lead where the table leads.
  pub moves_are_read : MovesAreRead
