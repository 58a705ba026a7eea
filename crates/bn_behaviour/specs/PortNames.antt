-- The names of the circuit's ports that are the ports of a behaviour, as a caller requests them (this project's own
-- profile).
use Rattle.std.specs.Prelude.{ℕ, List}
use Rattle.bn_behaviour.specs.declared.port_names.PortNames as declared

-- the names of the input ports, and those of the output ports, with a comma between two names
pub record PortNames : Type 0 where
  pub inputs : List ℕ
  pub outputs : List ℕ

-- the names of a `PortNames` of the code, as contracts see them
abbrev pub port_names_of : declared.PortNames → PortNames
port_names_of n = record { inputs = n.inputs.now; outputs = n.outputs.now }
