-- Columns of rotary elements (this project's own profile): which elements and wires of a circuit form a column, when
-- it is at rest, and what a crossing of it costs. The elements of a column have consecutive numbers: its k rows from
-- the top, and then its bottom. Rows are counted from 0 here, so that row r is element b + r, and the bottom is
-- element b + k. A column at rest with all its bars vertical is unmarked; it is marked if the bar of the bottom, and
-- no other, is horizontal.
use Rattle.std.specs.Prelude.{◌≡◌, ℕ, ◌+◌, ◌-◌, ◌*◌, ◌<◌, ◌≤◌, Bool, true, false, if◌then◌else◌, List, Some, slice_get}
use Rattle.std.specs.Prelude.{slice_set, ◌⊎◌}
use Rattle.bn_lists.specs.Runs.{Reaches}
use Rattle.bn_circuits.specs.Circuits.{Circuit, clock, target, place_after, Goes}
use Rattle.bn_circuits.specs.declared.line.Line.{Line}
use Rattle.bn_circuits.specs.declared.place.Place.TheVariants.{Enter}
use Rattle.bn_circuits.specs.declared.config.Config.{Config}
use Rattle.bn_element.specs.Rotary.{rotary, horizontal, vertical, north, east, south, west}
use Rattle.bn_circuits.specs.Circuits.{line_at}

-- A column's own wires, each from an output port `from` to an input port `to`. Each row leads down to the next one,
-- and the last row to the bottom. Each of these leads up again. Three more wires lead from the bottom to itself, from
-- the bottom to the top row, and from the top row to the bottom.
pub data IsInner (b k : ℕ) (from to : Line) : Type 0 where
  down : (r : ℕ) → r < k → from ≡ line_at (b + r) south → to ≡ line_at (b + (r + 1)) north → IsInner b k from to
  up : (r : ℕ) → r < k → from ≡ line_at (b + (r + 1)) north → to ≡ line_at (b + r) south → IsInner b k from to
  under : from ≡ line_at (b + k) south → to ≡ line_at (b + k) south → IsInner b k from to
  over : from ≡ line_at (b + k) west → to ≡ line_at b north → IsInner b k from to
  top : from ≡ line_at b north → to ≡ line_at (b + k) east → IsInner b k from to

-- In this circuit the k + 1 elements from b on are rotary elements with the wires of a column.
pub record IsColumn (c : Circuit) (b k : ℕ) : Type 0 where
  pub rotaries : (r : ℕ) → r ≤ k → slice_get c.tables (b + r) ≡ Some rotary
  pub wired : (from to : Line) → IsInner b k from to → target c.wires from ≡ Some to

-- the bar of the bottom of a column that is marked or not
abbrev pub bar : Bool → ℕ
bar marked = if marked then horizontal else vertical

-- the column is at rest, marked or not
pub record IsAtRest (states : List ℕ) (b k : ℕ) (marked : Bool) : Type 0 where
  pub rows : (r : ℕ) → r < k → slice_get states (b + r) ≡ Some vertical
  pub bottom : slice_get states (b + k) ≡ Some (bar marked)

-- the side by which a signal enters a row, and below, the side by which it finally leaves that row: a marked column
-- turns it back
abbrev pub entry_side : Bool → ℕ
entry_side from_east = if from_east then east else west

abbrev pub exit_side : Bool → ℕ
exit_side marked = if marked then west else east

-- The number of element steps from entering row i of k, counted from 1, to leaving it.
abbrev pub crossing_cost : ℕ → ℕ → Bool → Bool → ℕ
crossing_cost k i false false = 2 * (k - i) + 4
crossing_cost k i true false = k + 2
crossing_cost k i false true = k + 2
crossing_cost k i true true = 2 * i + 1

-- the signal enters a row of a column at rest, from the west or from the east
pub record IsEntering (b k i : ℕ) (marked from_east : Bool) (c : Config) : Type 0 where
  pub row : i < k
  pub at_rest : IsAtRest c.states b k marked
  pub enters : c.place ≡ Enter (b + i) (entry_side from_east)

-- The result of a crossing: the column is at rest again, and is now marked exactly if the signal came from the east;
-- the signal is where the output port of the row leads; nothing else has changed but the count of steps.
abbrev pub crossed : Circuit → ℕ → ℕ → ℕ → Bool → Bool → Config → Config
crossed k b rows i marked from_east c =
    record {
      states = slice_set c.states (b + rows) (bar from_east);
      place = place_after k.wires (line_at (b + i) (exit_side marked));
      steps = c.steps + crossing_cost rows (i + 1) marked from_east;
    }

-- the element is not in the column
abbrev pub IsBeside : ℕ → ℕ → ℕ → Type 0
IsBeside b k e = (e < b) ⊎ (b + k < e)

-- Strictly within a crossing that began with these states: the signal enters a port to which one of the column's own
-- wires leads; the bars outside the column are unchanged; and the bottom's bar is as at the beginning or as at the
-- end.
pub record IsWithin (b k : ℕ) (marked from_east : Bool) (states : List ℕ) (d : Config) : Type 0 where
  pub from : Line
  pub to : Line
  pub inner : IsInner b k from to
  pub enters : d.place ≡ Enter to.element to.line
  pub beside : (e : ℕ) → IsBeside b k e → slice_get d.states e ≡ slice_get states e
  pub bottom : (slice_get d.states (b + k) ≡ Some (bar marked)) ⊎ (slice_get d.states (b + k) ≡ Some (bar from_east))

-- the column can be crossed from this configuration: the signal enters one of its rows, and the clock admits the cost
pub record CanCross (b k : ℕ) (c : Config) : Type 0 where
  pub row : ℕ
  pub marked : Bool
  pub from_east : Bool
  pub entering : IsEntering b k row marked from_east c
  pub in_time : c.steps + crossing_cost k (row + 1) marked from_east ≤ clock

-- a crossing of this many steps, the last of which ends it
pub record IsCrossing (k : Circuit) (b rows i : ℕ) (marked from_east : Bool) (steps : ℕ) (c d : Config) : Type 0 where
  pub cost : steps ≡ crossing_cost rows (i + 1) marked from_east
  pub made : Reaches (Goes k) steps c d
  pub ends : d ≡ crossed k b rows i marked from_east c
