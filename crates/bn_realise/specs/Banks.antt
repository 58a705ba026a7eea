-- Banks of columns of rotary elements (this project's own profile): which elements and wires of a circuit form the
-- bank of an element's table, when it is at rest, and the result of one of its moves. The bank of a table with n
-- states and k input ports has n columns of k rows, one column after another, each with its bottom. States, ports,
-- columns and rows are counted from 0. The bank is in state q if every column is at rest and column q alone is marked.
use Rattle.std.specs.Prelude.{◌≡◌, ℕ, ◌+◌, ◌-◌, ◌*◌, ◌<◌, ◌≤◌, ◌==◌, Bool, false, List, Option, Some, None, slice_get}
use Rattle.std.specs.Prelude.{slice_set, ◌⊎◌}
use Rattle.bn_element.specs.Tables.{Table}
use Rattle.bn_circuits.specs.Circuits.{Circuit, target, place_after}
use Rattle.bn_circuits.specs.declared.line.Line.{Line}
use Rattle.bn_circuits.specs.declared.place.Place.TheVariants.{Enter}
use Rattle.bn_circuits.specs.declared.config.Config.{Config}
use Rattle.bn_element.specs.Rotary.{rotary, horizontal, vertical, east, west}
use Rattle.bn_column.specs.Columns.{IsInner, bar, IsAtRest}
use Rattle.bn_circuits.specs.Circuits.{line_at}
use Rattle.bn_rsm.specs.Costs.{table_cost}

-- the first element of column j of a bank that begins at element b, with k rows per column; below, the bottom of that
-- column
abbrev pub column_at : ℕ → ℕ → ℕ → ℕ
column_at b k j = b + j * (k + 1)

abbrev pub bottom_at : ℕ → ℕ → ℕ → ℕ
bottom_at b k j = column_at b k j + k

-- A bank's own wires, each from an output port `from` to an input port `to`. Each column has its inner wires. Each row
-- leads on to the same row of the next column. For each move, the west of the row where the signal is turned back
-- leads to the east of the row where it is to leave.
pub data IsBankWire (b : ℕ) (t : Table) (from to : Line) : Type 0 where
  inner : (j : ℕ) → j < t.states → IsInner (column_at b t.inputs j) t.inputs from to → IsBankWire b t from to
  along : (j i : ℕ) → j + 1 < t.states → i < t.inputs → from ≡ line_at (column_at b t.inputs j + i) east
      → to ≡ line_at (column_at b t.inputs (j + 1) + i) west → IsBankWire b t from to
  across : (q i r o : ℕ) → t.go q i ≡ Some (r, o) → from ≡ line_at (column_at b t.inputs q + i) west
      → to ≡ line_at (column_at b t.inputs r + o) east → IsBankWire b t from to

-- In this circuit the elements from b on are rotary elements with the wires of the bank of this table.
pub record IsBank (c : Circuit) (b : ℕ) (t : Table) : Type 0 where
  pub rotaries : (j x : ℕ) → j < t.states → x ≤ t.inputs → slice_get c.tables (column_at b t.inputs j + x) ≡ Some rotary
  pub wired : (from to : Line) → IsBankWire b t from to → target c.wires from ≡ Some to

-- whether column j is marked, if the marked column, or none, is this
abbrev pub is_marked : Option ℕ → ℕ → Bool
is_marked None j = false
is_marked (Some q) j = q == j

-- every column of the bank is at rest; the column that `mark` names is marked, and no other
pub record IsResting (states : List ℕ) (b n k : ℕ) (mark : Option ℕ) : Type 0 where
  pub columns : (j : ℕ) → j < n → IsAtRest states (column_at b k j) k (is_marked mark j)

-- the bank is at rest in some state
pub record HasMark (states : List ℕ) (b n k : ℕ) : Type 0 where
  pub state : ℕ
  pub within : state < n
  pub resting : IsResting states b n k (Some state)

-- input port i: the west of row i of the first column
abbrev pub bank_input_line : ℕ → ℕ → Line
bank_input_line b i = line_at (b + i) west

-- output port o: the east of row o of the last column
abbrev pub bank_output_line : ℕ → Table → ℕ → Line
bank_output_line b t o = line_at (column_at b t.inputs (t.states - 1) + o) east

-- the port where the signal is turned back in state q if it entered by port i: loose if the pair has no move
abbrev pub turning_line : ℕ → Table → ℕ → ℕ → Line
turning_line b t q i = line_at (column_at b t.inputs q + i) west

-- the bank is at rest in state q, and the signal enters input port i
pub record IsBankEntering (b : ℕ) (t : Table) (q i : ℕ) (c : Config) : Type 0 where
  pub state : q < t.states
  pub line : i < t.inputs
  pub resting : IsResting c.states b t.states t.inputs (Some q)
  pub enters : c.place ≡ Enter (b + i) west

-- the mark after a move, given the entry of the table; below, the bars after it, and the port by which the signal
-- leaves
abbrev pub mark_after : Option (ℕ × ℕ) → Option ℕ
mark_after None = None
mark_after (Some m) = Some m.0

abbrev pub states_after : List ℕ → ℕ → ℕ → ℕ → Option (ℕ × ℕ) → List ℕ
states_after s b k q None = slice_set s (bottom_at b k q) vertical
states_after s b k q (Some m) = slice_set (slice_set s (bottom_at b k q) vertical) (bottom_at b k m.0) horizontal

abbrev pub exit_after : ℕ → Table → ℕ → ℕ → Option (ℕ × ℕ) → Line
exit_after b t q i None = turning_line b t q i
exit_after b t q i (Some m) = bank_output_line b t m.1

-- The result of a move from state q and port i: the mark moves from the column of the old state to that of the new
-- one, and the signal is where the output port of the move leads. If the pair has no move, no column is marked and the
-- signal is where the turning port leads; if that port is loose, the signal has left.
abbrev pub moved : Circuit → ℕ → Table → ℕ → ℕ → Config → Config
moved k b t q i c =
    record {
      states = states_after c.states b t.inputs q (t.go q i);
      place = place_after k.wires (exit_after b t q i (t.go q i));
      steps = c.steps + table_cost t q i;
    }

-- the element is not in the bank
abbrev pub IsBesideBank : ℕ → Table → ℕ → Type 0
IsBesideBank b t e = (e < b) ⊎ (column_at b t.inputs t.states ≤ e)

-- the bottom of the column that `mark` names is marked, and no other
pub record AreMarked (states : List ℕ) (b n k : ℕ) (mark : Option ℕ) : Type 0 where
  pub bottoms : (j : ℕ) → j < n → slice_get states (bottom_at b k j) ≡ Some (bar (is_marked mark j))

-- Strictly within a move from state q and port i that began with these states: the signal enters a port to which one
-- of the bank's own wires leads; the bars outside the bank are unchanged; and at most one column is marked, that of
-- the old state or that of the new one.
pub record IsWithinBank (b : ℕ) (t : Table) (q i : ℕ) (states : List ℕ) (d : Config) : Type 0 where
  pub from : Line
  pub to : Line
  pub own : IsBankWire b t from to
  pub enters : d.place ≡ Enter to.element to.line
  pub beside : (e : ℕ) → IsBesideBank b t e → slice_get d.states e ≡ slice_get states e
  pub mark : Option ℕ
  pub among : ((mark ≡ Some q) ⊎ (mark ≡ None)) ⊎ (mark ≡ mark_after (t.go q i))
  pub marked : AreMarked d.states b t.states t.inputs mark
