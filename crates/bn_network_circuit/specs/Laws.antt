-- The laws of this crate, each a named field. `Laws` is the contract of `network_circuit_laws`.
use Rattle.std.specs.Prelude.{ℕ, List}
use Rattle.bn_rsm.specs.Machines.{Machine}
use Rattle.bn_mixed_networks.specs.Parts.{Represents}
use Rattle.bn_network_text.specs.Networks.{Drawing, Spells}
use Rattle.bn_network_circuit.specs.Realised.{shapes_of, parts_of, network_start, circuit_start}
use Rattle.bn_network_circuit.specs.Soundness.{AreTables, IsSound}

-- what a text describes is sound: its wires lead one to one between ports of its modules
abbrev pub NetworksAreSound : Type 0
NetworksAreSound = (ms : List Machine) (text : List ℕ) (d : Drawing) → AreTables ms → Spells (shapes_of ms) text d
    → IsSound ms d

-- the circuit of a network at its start represents the network at its start: each module in its state, and the signal
-- about to enter the place
abbrev pub StartsAreRepresented : Type 0
StartsAreRepresented = (ms : List Machine) (d : Drawing) → IsSound ms d
    → Represents (parts_of ms d.modules) d.wires (network_start d) (circuit_start ms d)

pub record Laws : Type 0 where
  -- The network that a text describes is sound.
  pub networks_are_sound : NetworksAreSound
  -- The circuit of a network at its start represents the network at its start.
  pub starts_are_represented : StartsAreRepresented
