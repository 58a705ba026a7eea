-- Rows of cells, one row for each element and one cell for each port: how wires are stored for look-up. A cell contains
-- the port at the other end of the wire, or nothing.
use Rattle.std.specs.Prelude.{◌≡◌, ℕ, ◌+◌, ◌^◌, ◌<◌, ◌≤◌, ◌↔◌, List, [], ◌∷◌, ◌++◌, length, Option, Some, None}
use Rattle.std.specs.Prelude.{slice_get, slice_set, slice_range, option_and_then}
use Rattle.std.specs.Option.{option_map_or}
use Rattle.std.proofs.Common.{suc}
use Rattle.bn_element.specs.Tables.{Table}
use Rattle.bn_circuits.specs.Circuits.{inputs_of, outputs_of}
use Rattle.bn_circuits.specs.declared.line.Line.{Line}
use Rattle.bn_circuits.specs.declared.line.Wire.{Wire}

abbrev pub Rows : Type 0
Rows = List (List (Option Line))

-- the content of the cell of a port
abbrev pub entry : Rows → Line → Option Line
entry rows at_line =
    option_and_then (λ row. option_and_then (λ cell. cell) (slice_get row at_line.line))
    (slice_get rows at_line.element)

-- the number of cells of an element's row
abbrev pub width : Rows → ℕ → ℕ
width rows e = option_map_or length (slice_get rows e) 0

-- the rows after a write
abbrev pub put : Rows → Line → Line → Rows
put rows from to =
    slice_set rows from.element
    (slice_set (option_map_or (λ row. row) (slice_get rows from.element) []) from.line (Some to))

-- the rows of cells that lie one after another, each from one start to the next
abbrev pub rows_at : List ℕ → List (Option Line) → Rows
rows_at [] cells = []
rows_at (a ∷ []) cells = []
rows_at (a ∷ b ∷ starts) cells = slice_range cells a b ∷ rows_at (b ∷ starts) cells

-- the starts do not decrease, and the last is the number of cells
abbrev pub AreStarts : List ℕ → ℕ → Type 0
AreStarts [] n = ⊥
AreStarts (a ∷ []) n = a ≡ n
AreStarts (a ∷ b ∷ starts) n = (a ≤ b) × AreStarts (b ∷ starts) n

-- the wires of a row whose cells are numbered from l, in order
abbrev pub wires_of_row : ℕ → ℕ → List (Option Line) → List Wire
wires_of_row e l [] = []
wires_of_row e l (None ∷ row) = wires_of_row e (suc l) row
wires_of_row e l (Some to ∷ row) =
    record { from = record { element = e; line = l }; to = to } ∷ wires_of_row e (suc l) row

-- the wires of rows of elements that are numbered from e, in order
abbrev pub wires_of : ℕ → Rows → List Wire
wires_of e [] = []
wires_of e (row ∷ rows) = wires_of_row e 0 row ++ wires_of (suc e) rows

-- The rows are the wires of these elements, stored both ways, with a cell for each output port and one for each input
-- port. An output's cell contains an input exactly if that input's cell contains the output.
pub record IsWired (tables : List Table) (targets sources : Rows) : Type 0 where
  pub outputs : (e : ℕ) → width targets e ≡ outputs_of tables e
  pub inputs : (e : ℕ) → width sources e ≡ inputs_of tables e
  pub paired : (from to : Line) → (entry targets from ≡ Some to) ↔ (entry sources to ≡ Some from)
  pub few : length tables < 2 ^ 32

-- where rows of these widths begin, the first at a, and then where the last one ends
abbrev pub starts_from : ℕ → List ℕ → List ℕ
starts_from a [] = a ∷ []
starts_from a (w ∷ widths) = a ∷ starts_from (a + w) widths
