-- Nets of rotary elements.
use Rattle.std.specs.Prelude.{◌≡◌, ℕ, List, length}
use Rattle.bn_circuits.specs.Circuits.{Circuit, target}
use Rattle.bn_circuits.specs.declared.line.Line.{Line}
use Rattle.bn_circuits.specs.declared.line.Wire.{Wire}
use Rattle.bn_element.specs.Rotary.{rotary}
use Rattle.bn_element.specs.declared.rotary.Rotary.{Rotary}
use Rattle.bn_circuits.specs.Parts.{Parts, circuit}

-- the circuit of a net of rotary elements
abbrev pub rotary_circuit : Parts Rotary → Circuit
rotary_circuit net = circuit (λ _. rotary) net

-- the net has `count` elements, and each output port leads to the same input port as by these wires
pub record IsNetOf (net : Parts Rotary) (count : ℕ) (wires : List Wire) : Type 0 where
  pub elements : length net.elements ≡ count
  pub targets : (from : Line) → target net.wires from ≡ target wires from
