-- Terms for the functions that copy the wires of a packed net: the wires of a net, output port by output port.
use Rattle.std.specs.Prelude.{◌≡◌, ℕ, List, Some}
use Rattle.bn_circuits.specs.Circuits.{line_at, target}
use Rattle.bn_circuits.specs.declared.line.Line.{Line}
use Rattle.bn_circuits.specs.declared.line.Wire.{Wire}
use Rattle.bn_circuits.specs.Order.{ComesBefore}

-- the wire of this list that leaves an output port before port l of element e
pub record IsTargetBefore (ws : List Wire) (e l : ℕ) (from to : Line) : Type 0 where
  pub leads : target ws from ≡ Some to
  pub before : ComesBefore from (line_at e l)
