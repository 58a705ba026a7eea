-- The circuit of a network whose machines are given by tables (own to this project): each machine by its bank, and
-- each rotary element by itself.
use Rattle.std.specs.Prelude.{◌≡◌, ◌↔◌, ℕ, List, map, Option, Some, None, slice_get}
use Rattle.bn_circuits.specs.Circuits.{target, line_at}
use Rattle.bn_circuits.specs.declared.line.Line.{Line}
use Rattle.bn_circuits.specs.declared.place.Place.TheVariants.{Enter}
use Rattle.bn_circuits.specs.declared.config.Config.{Config}
use Rattle.bn_circuits.specs.Situations.{Situation}
use Rattle.bn_netlist_laws.specs.Spelling.{Spelling}
use Rattle.bn_rsm.specs.Machines.{Machine, machine_table}
use Rattle.bn_network_text.specs.Networks.{Drawing}
use Rattle.bn_network_text.specs.declared.module.Module.{Module}
use Rattle.bn_network_text.specs.declared.module.Module.TheVariants.{Machine as MachineModule, Rotary}
use Rattle.bn_network_text.specs.declared.shape.Shape.{Shape}
use Rattle.bn_mixed_networks.specs.Parts.{Part, Bank, Single, IsAssemblyWire, bars_of, base, part_input, part_output}
use Rattle.bn_mixed_networks.specs.Parts.{size}

-- the numbers of states and ports of these machines
abbrev pub shape_of : Machine → Shape
shape_of m = record { states = m.states; lines = m.lines }

abbrev pub shapes_of : List Machine → List Shape
shapes_of ms = map shape_of ms

-- how a module is realised, over these machines
abbrev pub bank_of : Option Machine → Part
bank_of None = Single
bank_of (Some m) = Bank (machine_table m)

abbrev pub part_of : List Machine → Module → Part
part_of ms (MachineModule t q) = bank_of (slice_get ms t)
part_of ms (Rotary q) = Single

abbrev pub parts_of : List Machine → List Module → List Part
parts_of ms modules = map (part_of ms) modules

-- the state of a module, and of all
abbrev pub state_of : Module → ℕ
state_of (MachineModule t q) = q
state_of (Rotary q) = q

abbrev pub states_of : List Module → List ℕ
states_of modules = map state_of modules

-- the port of the circuit for an input port of the network, and for an output port
abbrev pub input_by : List Part → Line → Option Part → Line
input_by ps l None = line_at 0 0
input_by ps l (Some p) = part_input p (base ps l.element) l.line

abbrev pub input_at : List Part → Line → Line
input_at ps l = input_by ps l (slice_get ps l.element)

abbrev pub output_by : List Part → Line → Option Part → Line
output_by ps l None = line_at 0 0
output_by ps l (Some p) = part_output p (base ps l.element) l.line

abbrev pub output_at : List Part → Line → Line
output_at ps l = output_by ps l (slice_get ps l.element)

-- the network at its start, and its circuit at its start, with no step made
abbrev pub network_start : Drawing → Situation
network_start d = record { states = states_of d.modules; place = Enter d.place.element d.place.line }

abbrev pub circuit_start : List Machine → Drawing → Config
circuit_start ms d =
    record {
      states = bars_of (parts_of ms d.modules) (states_of d.modules);
      place = Enter (input_at (parts_of ms d.modules) d.place).element (input_at (parts_of ms d.modules) d.place).line;
      steps = 0;
    }

-- The text spells the circuit of the network: part after part, with its wires and no others, each module in its state,
-- the signal about to enter the place, with no step made; start and end are those of the network.
pub record IsCircuitSpelling (ms : List Machine) (d : Drawing) (s : Spelling) : Type 0 where
  pub elements : s.elements ≡ size (parts_of ms d.modules)
  pub wires : (from to : Line)
      → (target s.wires from ≡ Some to) ↔ IsAssemblyWire (parts_of ms d.modules) d.wires from to
  pub config : s.config ≡ circuit_start ms d
  pub start : s.start ≡ input_at (parts_of ms d.modules) d.start
  pub end : s.end ≡ output_at (parts_of ms d.modules) d.end
