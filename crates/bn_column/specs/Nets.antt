-- A net that is one column and nothing else.
use Rattle.std.specs.Prelude.{◌≡◌, ℕ, ◌+◌, ◌-◌, ◌<◌, Bool, [], ◌∷◌, ◌++◌, length, replicate, Some, ◌⊎◌}
use Rattle.bn_circuits.specs.Circuits.{target}
use Rattle.bn_circuits.specs.declared.line.Line.{Line}
use Rattle.bn_circuits.specs.declared.line.Wire.{Wire}
use Rattle.bn_circuits.specs.declared.place.Place.TheVariants.{Enter}
use Rattle.bn_circuits.specs.declared.config.Config.{Config}
use Rattle.bn_element.specs.Rotary.{vertical}
use Rattle.bn_element.specs.declared.rotary.Rotary.{Rotary}
use Rattle.bn_circuits.specs.Parts.{Parts}
use Rattle.bn_circuits.specs.RotaryNets.{rotary_circuit}
use Rattle.bn_column.specs.Columns.{IsInner, IsColumn, bar}
use Rattle.bn_circuits.specs.Circuits.{line_at}

-- The net is a column of this many rows: its elements are those of the column, and its wires are the column's own and
-- no others.
pub record IsColumnNet (net : Parts Rotary) (rows : ℕ) : Type 0 where
  pub elements : length net.elements ≡ rows + 1
  pub column : IsColumn (rotary_circuit net) 0 rows
  pub no_others : (from to : Line) → target net.wires from ≡ Some to → IsInner 0 rows from to

-- a net that is one column, its number of rows, and whether it begins marked
pub record Standing : Type 0 where
  pub net : Parts Rotary
  pub rows : ℕ
  pub marked : Bool

-- this column has n rows and the mark m, and its net is that column
pub record IsStanding (c : Standing) (n : ℕ) (m : Bool) : Type 0 where
  pub rows : c.rows ≡ n
  pub marked : c.marked ≡ m
  pub column : IsColumnNet c.net n

-- the configuration of a column at rest, with the signal about to enter a row, counted from 1, on this side, and no
-- step counted
abbrev pub start_at : ℕ → Bool → ℕ → ℕ → Config
start_at rows marked row side =
    record { states = replicate rows vertical ++ bar marked ∷ []; place = Enter (row - 1) side; steps = 0 }

-- not a number of rows of a column, which is from 1 to 65,535
abbrev pub IsNoCount : ℕ → Type 0
IsNoCount rows = (rows ≡ 0) ⊎ (65535 < rows)

-- a wire by its four numbers
abbrev pub wire_of : ℕ → ℕ → ℕ → ℕ → Wire
wire_of from from_line to to_line = record { from = line_at from from_line; to = line_at to to_line }
