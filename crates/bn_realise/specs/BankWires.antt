-- The wires of a bank: where they begin and end, that they are one to one, and lists of them column by column.
use Rattle.std.specs.Prelude.{◌≡◌, ℕ, ◌+◌, ◌<◌, ◌≤◌, Some}
use Rattle.bn_element.specs.Tables.{Table}
use Rattle.bn_circuits.specs.declared.line.Line.{Line}
use Rattle.bn_element.specs.Rotary.{east, west}
use Rattle.bn_column.specs.Columns.{IsInner}
use Rattle.bn_circuits.specs.Circuits.{line_at}
use Rattle.bn_realise.specs.Banks.{column_at}

-- the range of a bank's own wire: both ends are ports of the bank
pub record IsWithinLines (b : ℕ) (t : Table) (from to : Line) : Type 0 where
  pub from_low : b ≤ from.element
  pub from_high : from.element < column_at b t.inputs t.states
  pub from_line : from.line < 4
  pub to_low : b ≤ to.element
  pub to_high : to.element < column_at b t.inputs t.states
  pub to_line : to.line < 4

-- the wires that a row adds: to the next column, if there is one, and across, if there is a move
pub data IsRowWire (b : ℕ) (t : Table) (j i : ℕ) (from to : Line) : Type 0 where
  onward : j + 1 < t.states → from ≡ line_at (column_at b t.inputs j + i) east
      → to ≡ line_at (column_at b t.inputs (j + 1) + i) west → IsRowWire b t j i from to
  turned : (r o : ℕ) → t.go j i ≡ Some (r, o) → from ≡ line_at (column_at b t.inputs j + i) west
      → to ≡ line_at (column_at b t.inputs r + o) east → IsRowWire b t j i from to

-- the wires that leave the columns before column j
pub data IsEarlier (b : ℕ) (t : Table) (j : ℕ) (from to : Line) : Type 0 where
  inside : (x : ℕ) → x < j → IsInner (column_at b t.inputs x) t.inputs from to → IsEarlier b t j from to
  in_row : (x y : ℕ) → x < j → y < t.inputs → IsRowWire b t x y from to → IsEarlier b t j from to

-- the wires that leave earlier columns, the inner wires of column j, and the wires that the first i rows of column j
-- add
pub data IsStage (b : ℕ) (t : Table) (j i : ℕ) (from to : Line) : Type 0 where
  earlier : IsEarlier b t j from to → IsStage b t j i from to
  inside_it : IsInner (column_at b t.inputs j) t.inputs from to → IsStage b t j i from to
  above : (y : ℕ) → y < i → IsRowWire b t j y from to → IsStage b t j i from to

-- these, and the wire of row i to the next column
pub data IsHalf (b : ℕ) (t : Table) (j i : ℕ) (from to : Line) : Type 0 where
  before : IsStage b t j i from to → IsHalf b t j i from to
  beside : j + 1 < t.states → from ≡ line_at (column_at b t.inputs j + i) east
      → to ≡ line_at (column_at b t.inputs (j + 1) + i) west → IsHalf b t j i from to
