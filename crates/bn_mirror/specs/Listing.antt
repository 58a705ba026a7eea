-- The wires of an inverse circuit, listed output by output.
use Rattle.std.specs.Prelude.{◌≡◌, ℕ, ◌+◌, ◌*◌, ◌<◌, ◌≤◌, List, length, Some}
use Rattle.bn_circuits.specs.Circuits.{target}
use Rattle.bn_circuits.specs.declared.line.Line.{Line}
use Rattle.bn_circuits.specs.declared.line.Wire.{Wire}
use Rattle.bn_circuits.specs.Wirings.{AreWiresOf}
use Rattle.bn_mirror.specs.Mirror.{mirrored_line}

-- the number of a port of a rotary element among the ports of all elements
abbrev pub number_of : Line → ℕ
number_of l = 4 * l.element + l.line

-- a wire of the inverse circuit: these wires contain it reversed
abbrev pub IsMirroredWire : List Wire → Line → Line → Type 0
IsMirroredWire ws from to = target ws (mirrored_line to) ≡ Some (mirrored_line from)

-- the same, for a reversed wire that leaves one of the first k output ports
pub record IsMirroredBelow (ws : List Wire) (k : ℕ) (from to : Line) : Type 0 where
  pub wire : IsMirroredWire ws from to
  pub below : number_of (mirrored_line to) < k

-- the wires of the inverse circuit for the first k output ports
pub record IsListing (ws : List Wire) (k : ℕ) (listed : List Wire) : Type 0 where
  pub wires : AreWiresOf (IsMirroredBelow ws k) listed
  pub few : length listed ≤ k
