-- What holds of every network that a text describes over the machines of tables (own to this project).
use Rattle.std.specs.Prelude.{◌≡◌, ℕ, ◌<◌, ◌≤◌, List, length, Some, None, slice_get}
use Rattle.bn_base.specs.declared.limits.TheConstants.{MOST_COUNT}
use Rattle.bn_circuits.specs.Circuits.{IsInputOf, IsOutputOf, target, source}
use Rattle.bn_rsm.specs.Machines.{Machine}
use Rattle.bn_mixed_networks.specs.Parts.{network, part_table}
use Rattle.bn_mixed_networks.specs.Laws.{AreParts}
use Rattle.bn_network_text.specs.Networks.{Drawing}
use Rattle.bn_network_text.specs.declared.module.Module.{Module}
use Rattle.bn_network_text.specs.declared.module.TheConstants.{MOST_MODULES}
use Rattle.bn_network_circuit.specs.Realised.{parts_of, state_of, part_of}

-- machines as tables have them: each has a state and a port, and at most so many of each
pub record AreTables (ms : List Machine) : Type 0 where
  pub some_states : (t : ℕ) (m : Machine) → slice_get ms t ≡ Some m → 0 < m.states
  pub some_lines : (t : ℕ) (m : Machine) → slice_get ms t ≡ Some m → 0 < m.lines
  pub few_states : (t : ℕ) (m : Machine) → slice_get ms t ≡ Some m → m.states ≤ MOST_COUNT
  pub few_lines : (t : ℕ) (m : Machine) → slice_get ms t ≡ Some m → m.lines ≤ MOST_COUNT

-- the modules are parts of a network with these wires, each in a state of its own; the three ports are there; no wire
-- leads to the start, and none leaves the end
pub record IsSound (ms : List Machine) (d : Drawing) : Type 0 where
  pub some : 0 < length d.modules
  pub few : length d.modules ≤ MOST_MODULES
  pub parts : AreParts (parts_of ms d.modules) d.wires
  pub states : (m : ℕ) (x : Module) → slice_get d.modules m ≡ Some x → state_of x < (part_table (part_of ms x)).states
  pub start : IsInputOf (network (parts_of ms d.modules) d.wires).tables d.start
  pub end : IsOutputOf (network (parts_of ms d.modules) d.wires).tables d.end
  pub place : IsInputOf (network (parts_of ms d.modules) d.wires).tables d.place
  pub unfed : source d.wires d.start ≡ None
  pub unwired : target d.wires d.end ≡ None
