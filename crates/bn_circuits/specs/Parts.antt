-- A net as contracts see it: its elements, and its wires in the order of their output ports.
use Rattle.std.specs.Prelude.{List, map}
use Rattle.bn_element.specs.Tables.{Table}
use Rattle.bn_circuits.specs.Circuits.{Circuit}
use Rattle.bn_circuits.specs.declared.line.Wire.{Wire}

pub record Parts (E : Type 0) : Type 0 where
  pub elements : List E
  pub wires : List Wire

-- the circuit of a net, by the table of each element
abbrev pub circuit : {E : Type 0} → (E → Table) → Parts E → Circuit
circuit table net = record { tables = map table net.elements; wires = net.wires }
