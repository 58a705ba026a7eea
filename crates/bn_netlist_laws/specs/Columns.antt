-- Columns of a configuration: consecutive elements with the wires of a column and the bars of a column at rest. (This
-- project's own profile.)
use Rattle.std.specs.Prelude.{◌≡◌, ℕ, ◌+◌, ◌-◌, ◌<◌, ◌↔◌, ◌==◌, ◌&&◌, nat_lt, Bool, true, false, List, [], ◌∷◌, ◌++◌}
use Rattle.std.specs.Prelude.{replicate, Option, Some, None, slice_get, if◌then◌else◌, option_and_then}
use Rattle.std.proofs.Common.{zero, suc}
use Rattle.bn_circuits.specs.Circuits.{Circuit, same_line, target}
use Rattle.bn_circuits.specs.declared.line.Line.{Line}
use Rattle.bn_circuits.specs.declared.line.Wire.{Wire}
use Rattle.bn_element.specs.Rotary.{rotary, vertical, north, east, south, west}
use Rattle.bn_column.specs.Columns.{IsColumn}
use Rattle.bn_circuits.specs.Circuits.{line_at}
use Rattle.bn_column.specs.Nets.{wire_of}

-- In this circuit, with its bars in these states, a column of this many rows begins at element `first`, its top row.
-- There is at least one row; the elements have a column's own wires; no wire leaves the bottom by its east output; and
-- all rows are vertical. The bottom's bar may be in either state.
pub record IsColumnAt (c : Circuit) (states : List ℕ) (first rows : ℕ) : Type 0 where
  pub some : 0 < rows
  pub column : IsColumn c first rows
  pub loose : target c.wires (line_at (first + rows) east) ≡ None
  pub upright : (r : ℕ) → r < rows → slice_get states (first + r) ≡ Some vertical

-- a column begins at this element
abbrev pub HasColumnAt : Circuit → List ℕ → ℕ → Type 0
HasColumnAt c states first = (rows : ℕ) × IsColumnAt c states first rows

-- the circuit of this many rotary elements with these wires
abbrev pub rotary_elements : ℕ → List Wire → Circuit
rotary_elements count wires = record { tables = replicate count rotary; wires = wires }

-- ---- a column's own wires as a list

-- the wires between each of the first r rows and the element below it
abbrev pub rungs : ℕ → ℕ → List Wire
rungs b zero = []
rungs b (suc r) =
    (rungs b r ++ wire_of (b + r) south (b + r + 1) north ∷ []) ++ wire_of (b + r + 1) north (b + r) south ∷ []

-- all inner wires: those between rows, and the three of the bottom and the top row
abbrev pub inner_wires : ℕ → ℕ → List Wire
inner_wires b k =
    ((rungs b k ++ wire_of (b + k) south (b + k) south ∷ []) ++ wire_of (b + k) west b north ∷ [])
    ++ wire_of b north (b + k) east ∷ []

-- ---- the number of rows as a function, for rotary elements

abbrev pub leads_to : Option Line → Line → Bool
leads_to None to = false
leads_to (Some l) to = same_line l to

-- by the wires of the first list, the output port of each wire of the second leads to its input port
abbrev pub lead_all : List Wire → List Wire → Bool
lead_all ws [] = true
lead_all ws (v ∷ vs) = leads_to (target ws v.from) v.to && lead_all ws vs

abbrev pub is_vertical : Option ℕ → Bool
is_vertical None = false
is_vertical (Some q) = q == vertical

-- this many bars from this one on are vertical
abbrev pub are_upright : List ℕ → ℕ → ℕ → Bool
are_upright states e zero = true
are_upright states e (suc k) = are_upright states e k && is_vertical (slice_get states (e + k))

abbrev pub is_loose : Option Line → Bool
is_loose None = true
is_loose (Some l) = false

-- whether a column of k rows begins at element e
abbrev pub is_column_at : ℕ → List Wire → List ℕ → ℕ → ℕ → Bool
is_column_at count ws states e k =
    nat_lt (e + k) count && lead_all ws (inner_wires e k) && is_loose (target ws (line_at (e + k) east))
    && are_upright states e k

-- the number of rows, computed from where the north output of the top row leads: to the east input of the bottom
abbrev pub rows_told : Option Line → ℕ → Option ℕ
rows_told None e = None
rows_told (Some to) e = if nat_lt e to.element then Some (to.element - e) else None

abbrev pub checked_rows : ℕ → List Wire → List ℕ → ℕ → ℕ → Option ℕ
checked_rows count ws states e k = if is_column_at count ws states e k then Some k else None

-- the number of rows of the column that begins at element e; `None` if none begins there
abbrev pub column_at : ℕ → List Wire → List ℕ → ℕ → Option ℕ
column_at count ws states e =
    option_and_then (checked_rows count ws states e) (rows_told (target ws (line_at e north)) e)

-- ---- laws

-- A column that begins at an element has one number of rows.
abbrev pub RowsAgree : Type 0
RowsAgree =
    (c : Circuit) (states : List ℕ) (first rows others : ℕ) → IsColumnAt c states first rows
    → IsColumnAt c states first others → rows ≡ others

-- The function `column_at` returns a number of rows exactly if a column of that many rows begins at the element.
abbrev pub ColumnsAreFound : Type 0
ColumnsAreFound =
    (count : ℕ) (ws : List Wire) (states : List ℕ) (e k : ℕ)
    → (column_at count ws states e ≡ Some k) ↔ IsColumnAt (rotary_elements count ws) states e k
