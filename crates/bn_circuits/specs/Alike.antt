-- Circuits with the same tables and the same wires, listed in any order, and tables with the same moves.
use Rattle.std.specs.Prelude.{◌≡◌, ℕ, List, Some, slice_get}
use Rattle.bn_element.specs.Tables.{Table, IsReversible, Move, table_by, AreWithin}
use Rattle.bn_circuits.specs.Circuits.{Circuit, target, source}
use Rattle.bn_circuits.specs.Stepping.{run, back, places, places_back}
use Rattle.bn_circuits.specs.declared.line.Line.{Line}
use Rattle.bn_circuits.specs.declared.config.Config.{Config}

-- the same tables, and the same wires both ways
pub record AreAlike (k m : Circuit) : Type 0 where
  pub tables : k.tables ≡ m.tables
  pub targets : (from : Line) → target k.wires from ≡ target m.wires from
  pub sources : (to : Line) → source k.wires to ≡ source m.wires to

-- circuits that are alike run alike, forward and backward, and the signal takes the same places
pub record RunAlike (k m : Circuit) (c : Config) (t : ℕ) : Type 0 where
  pub forward : run k c t ≡ run m c t
  pub backward : back k c t ≡ back m c t
  pub places_forward : places k t c ≡ places m t c
  pub places_backward : places_back k t c ≡ places_back m t c

abbrev pub AlikeRunAlike : Type 0
AlikeRunAlike = (k m : Circuit) → AreAlike k m → (c : Config) (t : ℕ) → RunAlike k m c t

-- reversible tables with the same numbers and the same moves are equal
abbrev pub TablesAreOne : Type 0
TablesAreOne =
    (t u : Table) → IsReversible t → IsReversible u → t.states ≡ u.states → t.inputs ≡ u.inputs → t.outputs ≡ u.outputs
    → ((q i : ℕ) → t.go q i ≡ u.go q i) → t ≡ u

-- two moves from the same pair are equal, and so are two moves to the same pair; a move may occur twice in the list
pub record AreConsistent (ms : List Move) : Type 0 where
  pub ahead : (i j : ℕ) (a b : Move) → slice_get ms i ≡ Some a → slice_get ms j ≡ Some b
      → a.state ≡ b.state → a.input ≡ b.input → (a.next ≡ b.next) × (a.output ≡ b.output)
  pub behind : (i j : ℕ) (a b : Move) → slice_get ms i ≡ Some a → slice_get ms j ≡ Some b
      → a.next ≡ b.next → a.output ≡ b.output → (a.state ≡ b.state) × (a.input ≡ b.input)

-- such a list makes a reversible table
abbrev pub ConsistentMovesAreReversible : Type 0
ConsistentMovesAreReversible =
    (s n k : ℕ) (ms : List Move) → AreConsistent ms → AreWithin s n k ms → IsReversible (table_by s n k ms)
