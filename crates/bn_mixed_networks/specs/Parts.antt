-- Circuits of rotary elements that realise networks of modules, each by a bank or by one rotary element (own to this
-- project). Modules, ports, states and elements are counted from 0.
use Rattle.std.specs.Prelude.{◌≡◌, ℕ, zero, suc, ◌+◌, ◌*◌, ◌<◌, ◌↔◌, List, [], ◌∷◌, ◌++◌, length, map, replicate}
use Rattle.std.specs.Prelude.{Option, Some, None, slice_get, slice_set}
use Rattle.bn_element.specs.Tables.{Table, IsReversible}
use Rattle.bn_element.specs.Rotary.{rotary, horizontal, vertical}
use Rattle.bn_circuits.specs.Circuits.{Circuit, target, line_at, IsPlace}
use Rattle.bn_circuits.specs.declared.line.Line.{Line}
use Rattle.bn_circuits.specs.declared.line.Wire.{Wire}
use Rattle.bn_circuits.specs.declared.place.Place.{Place}
use Rattle.bn_circuits.specs.declared.place.Place.TheVariants.{Enter, Left}
use Rattle.bn_circuits.specs.declared.config.Config.{Config}
use Rattle.bn_circuits.specs.Situations.{Situation}
use Rattle.bn_rsm.specs.Costs.{table_cost}
use Rattle.bn_realise.specs.Banks.{IsBankWire, IsResting, bottom_at, bank_input_line, bank_output_line}

-- how a module is realised: its table by the table's bank, or the rotary element by itself
pub data Part : Type 0 where
  Bank : Table → Part
  Single : Part

-- the table of the module
abbrev pub part_table : Part → Table
part_table (Bank t) = t
part_table Single = rotary

-- what can be a module: a reversible table with a state, a port, and as many output as input ports
abbrev pub IsPart : Part → Type 0
IsPart (Bank t) = IsReversible t × (0 < t.states) × (0 < t.inputs) × (t.outputs ≡ t.inputs)
IsPart Single = Unit {0}

-- the number of elements of a part; of the first parts together, which is the first element of the next; and of all
abbrev pub part_size : Part → ℕ
part_size (Bank t) = t.states * (t.inputs + 1)
part_size Single = 1

abbrev pub base : List Part → ℕ → ℕ
base ps zero = 0
base [] (suc m) = 0
base (p ∷ ps) (suc m) = part_size p + base ps m

abbrev pub size : List Part → ℕ
size ps = base ps (length ps)

-- the input ports and the output ports of a part whose first element is b
abbrev pub part_input : Part → ℕ → ℕ → Line
part_input (Bank t) b i = bank_input_line b i
part_input Single b i = line_at b i

abbrev pub part_output : Part → ℕ → ℕ → Line
part_output (Bank t) b o = bank_output_line b t o
part_output Single b o = line_at b o

-- the wires inside a part
abbrev pub IsPartWire : Part → ℕ → Line → Line → Type 0
IsPartWire (Bank t) b from to = IsBankWire b t from to
IsPartWire Single b from to = ⊥

-- the part is at rest in state q
abbrev pub IsPartResting : Part → List ℕ → ℕ → ℕ → Type 0
IsPartResting (Bank t) bars b q = IsResting bars b t.states t.inputs (Some q)
IsPartResting Single bars b q = slice_get bars b ≡ Some q

-- the element steps of a move from state q and input port i
abbrev pub part_cost : Part → ℕ → ℕ → ℕ
part_cost (Bank t) q i = table_cost t q i
part_cost Single q i = 1

-- ---- networks

-- the network of these parts with these wires between their ports
abbrev pub network : List Part → List Wire → Circuit
network ps ws = record { tables = map part_table ps; wires = ws }

-- the wires of the circuit: those inside each part, and for each wire of the network one from the output port of the
-- first part to the input port of the second
pub data IsAssemblyWire (ps : List Part) (ws : List Wire) (from to : Line) : Type 0 where
  own : (m : ℕ) (p : Part) → slice_get ps m ≡ Some p → IsPartWire p (base ps m) from to → IsAssemblyWire ps ws from to
  between : (out into : Line) (p q : Part) → target ws out ≡ Some into → slice_get ps out.element ≡ Some p
      → slice_get ps into.element ≡ Some q → from ≡ part_output p (base ps out.element) out.line
      → to ≡ part_input q (base ps into.element) into.line → IsAssemblyWire ps ws from to

-- k is the circuit of rotary elements that realises the network: part after part, with these wires and no others
pub record IsAssembly (ps : List Part) (ws : List Wire) (k : Circuit) : Type 0 where
  pub tables : k.tables ≡ replicate (size ps) rotary
  pub wires : (from to : Line) → (target k.wires from ≡ Some to) ↔ IsAssemblyWire ps ws from to

-- ---- configurations

-- the bars of a part at rest in state q, and of all parts in these states
abbrev pub part_bars : Part → ℕ → List ℕ
part_bars (Bank t) q = slice_set (replicate (t.states * (t.inputs + 1)) vertical) (bottom_at 0 t.inputs q) horizontal
part_bars Single q = q ∷ []

abbrev pub bars_of : List Part → List ℕ → List ℕ
bars_of [] qs = []
bars_of (p ∷ ps) [] = []
bars_of (p ∷ ps) (q ∷ qs) = part_bars p q ++ bars_of ps qs

-- the place of the signal in the circuit, for a place in the network
abbrev pub input_place : List Part → ℕ → Option Part → ℕ → Place
input_place ps m None i = Enter 0 0
input_place ps m (Some p) i = Enter (part_input p (base ps m) i).element (part_input p (base ps m) i).line

abbrev pub output_place : List Part → ℕ → Option Part → ℕ → Place
output_place ps m None o = Left 0 0
output_place ps m (Some p) o = Left (part_output p (base ps m) o).element (part_output p (base ps m) o).line

abbrev pub place_in : List Part → Place → Place
place_in ps (Enter m i) = input_place ps m (slice_get ps m) i
place_in ps (Left m o) = output_place ps m (slice_get ps m) o

-- the circuit represents a situation of the network: the signal is where the situation has it, and each part is at
-- rest in its module's state
pub record Represents (ps : List Part) (ws : List Wire) (s : Situation) (c : Config) : Type 0 where
  pub count : length s.states ≡ length ps
  pub bars : length c.states ≡ size ps
  pub rests : (m : ℕ) (p : Part) (q : ℕ) → slice_get ps m ≡ Some p → slice_get s.states m ≡ Some q
      → (q < (part_table p).states) × IsPartResting p c.states (base ps m) q
  pub admissible : IsPlace (network ps ws) s.place
  pub place : c.place ≡ place_in ps s.place

-- ---- costs

-- the element steps of the move that the network makes next, and of its next moves
abbrev pub entered_cost : Option Part → Option ℕ → ℕ → ℕ
entered_cost (Some p) (Some q) i = part_cost p q i
entered_cost p q i = 0

abbrev pub place_cost : List Part → List ℕ → Place → ℕ
place_cost ps states (Left m o) = 0
place_cost ps states (Enter m i) = entered_cost (slice_get ps m) (slice_get states m) i

abbrev pub move_cost : List Part → Situation → ℕ
move_cost ps s = place_cost ps s.states s.place
