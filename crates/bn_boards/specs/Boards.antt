-- The flat circuit of rotary elements of any circuit of modules (own to this project; *board* in names): each module
-- as its bank of columns of rotary elements, one bank after another. The definition does not depend on tapes, cells
-- or controls.
use Rattle.std.specs.Prelude.{◌≡◌, ◌≢◌, ◌↔◌, ℕ, zero, suc, ◌+◌, ◌*◌, ◌<◌, List, [], ◌∷◌, ◌++◌, length, replicate}
use Rattle.std.specs.Prelude.{Option, Some, None, slice_get, slice_set, ◌⊎◌}
use Rattle.bn_element.specs.Tables.{Table}
use Rattle.bn_circuits.specs.Circuits.{Circuit, target, IsCircuit, IsPlace}
use Rattle.bn_circuits.specs.declared.line.Line.{Line}
use Rattle.bn_circuits.specs.declared.place.Place.{Place}
use Rattle.bn_circuits.specs.declared.place.Place.TheVariants.{Enter, Left}
use Rattle.bn_circuits.specs.declared.config.Config.{Config}
use Rattle.bn_element.specs.Rotary.{rotary, horizontal, vertical, east, west}
use Rattle.bn_realise.specs.Banks.{IsBankWire, IsResting, AreMarked, bottom_at, bank_input_line, bank_output_line}
use Rattle.bn_realise.specs.Banks.{turning_line}
use Rattle.bn_circuits.specs.Situations.{Situation}

-- the number of elements of a bank (`size_of`); of the first modules together, which is the first element of the next
-- one (`base`); and of all modules (`size`)
abbrev pub size_of : Table → ℕ
size_of t = t.states * (t.inputs + 1)

abbrev pub base : List Table → ℕ → ℕ
base ts zero = 0
base [] (suc m) = 0
base (t ∷ ts) (suc m) = size_of t + base ts m

abbrev pub size : List Table → ℕ
size ts = base ts (length ts)

-- modules that can be banks: each is reversible, has a state and a port, and as many output as input ports
pub record AreModules (n : Circuit) : Type 0 where
  pub circuit : IsCircuit n
  pub some_states : (m : ℕ) (t : Table) → slice_get n.tables m ≡ Some t → 0 < t.states
  pub some_lines : (m : ℕ) (t : Table) → slice_get n.tables m ≡ Some t → 0 < t.inputs
  pub square : (m : ℕ) (t : Table) → slice_get n.tables m ≡ Some t → t.outputs ≡ t.inputs

-- the circuit's wires: those of each module's bank; and for each wire between modules, one from the output port of
-- the first bank to the input port of the second
pub data IsBoardWire (n : Circuit) (from to : Line) : Type 0 where
  own : (m : ℕ) (t : Table) → slice_get n.tables m ≡ Some t → IsBankWire (base n.tables m) t from to
      → IsBoardWire n from to
  between : (out into : Line) (t : Table) → target n.wires out ≡ Some into → slice_get n.tables out.element ≡ Some t
      → from ≡ bank_output_line (base n.tables out.element) t out.line
      → to ≡ bank_input_line (base n.tables into.element) into.line → IsBoardWire n from to

-- the circuit of rotary elements k is the circuit (board) of the network n
pub record IsBoard (n k : Circuit) : Type 0 where
  pub circuit : IsCircuit k
  pub tables : k.tables ≡ replicate (size n.tables) rotary
  pub wires : (from to : Line) → (target k.wires from ≡ Some to) ↔ IsBoardWire n from to

-- the bars of a circuit whose modules are in these states
abbrev pub bars_of : List Table → List ℕ → List ℕ
bars_of [] qs = []
bars_of (t ∷ ts) [] = []
bars_of (t ∷ ts) (q ∷ qs) =
    slice_set (replicate (size_of t) vertical) (bottom_at 0 t.inputs q) horizontal ++ bars_of ts qs

-- the place of the signal in the circuit, for a place between two modules of the network
abbrev pub output_at : List Table → ℕ → Option Table → ℕ → Place
output_at ts e None o = Left 0 0
output_at ts e (Some t) o = Left (bank_output_line (base ts e) t o).element east

abbrev pub on_board : List Table → Place → Place
on_board ts (Enter e i) = Enter (base ts e + i) west
on_board ts (Left e o) = output_at ts e (slice_get ts e) o

-- the circuit's configuration for a situation of its modules, with no step made
abbrev pub board_start : List Table → Situation → Config
board_start ts s = record { states = bars_of ts s.states; place = on_board ts s.place; steps = 0 }

-- the circuit represents the situation: the signal is between two modules, and each bank is at rest in its module's
-- state
pub record StandsFor (n : Circuit) (s : Situation) (c : Config) : Type 0 where
  pub count : length s.states ≡ length n.tables
  pub bars : length c.states ≡ size n.tables
  pub rests : (m : ℕ) (t : Table) (q : ℕ) → slice_get n.tables m ≡ Some t → slice_get s.states m ≡ Some q
      → (q < t.states) × IsResting c.states (base n.tables m) t.states t.inputs (Some q)
  pub admissible : IsPlace n s.place
  pub place : c.place ≡ on_board n.tables s.place

-- Strictly within a move from s to t: the signal enters a port to which one of some bank's own wires leads, and the
-- marks of each bank are those in s, or those in t, or none.
pub record IsAmid (n : Circuit) (s t : Situation) (d : Config) : Type 0 where
  pub at_module : ℕ
  pub table : Table
  pub has_table : slice_get n.tables at_module ≡ Some table
  pub from : Line
  pub to : Line
  pub own : IsBankWire (base n.tables at_module) table from to
  pub enters : d.place ≡ Enter to.element to.line
  pub mark : (m : ℕ) (u : Table) → slice_get n.tables m ≡ Some u → (q : Option ℕ)
      × AreMarked d.states (base n.tables m) u.states u.inputs q
      × (((q ≡ slice_get s.states m) ⊎ (q ≡ slice_get t.states m)) ⊎ (q ≡ None))

-- if the module that the signal enters has no move, the signal has left by a loose port; its bank has no mark, and
-- every other bank is at rest in its module's state
pub record IsLoose (n : Circuit) (s : Situation) (d : Config) : Type 0 where
  pub at_module : ℕ
  pub line : ℕ
  pub table : Table
  pub state : ℕ
  pub enters : s.place ≡ Enter at_module line
  pub has_table : slice_get n.tables at_module ≡ Some table
  pub has_state : slice_get s.states at_module ≡ Some state
  pub no_move : table.go state line ≡ None
  pub left : d.place ≡ Left (turning_line (base n.tables at_module) table state line).element west
  pub unmarked : AreMarked d.states (base n.tables at_module) table.states table.inputs None
  pub rests : (m : ℕ) (u : Table) (q : ℕ) → m ≢ at_module → slice_get n.tables m ≡ Some u
      → slice_get s.states m ≡ Some q
      → (q < u.states) × IsResting d.states (base n.tables m) u.states u.inputs (Some q)
  pub mark : (m : ℕ) (u : Table) → slice_get n.tables m ≡ Some u → (q : Option ℕ)
      × AreMarked d.states (base n.tables m) u.states u.inputs q × ((q ≡ slice_get s.states m) ⊎ (q ≡ None))
