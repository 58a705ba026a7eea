-- The wires of a packed netlist, which may be stored in one direction or in both.
use Rattle.std.specs.Prelude.{Bool}
use Rattle.bn_element.specs.declared.rotary.Rotary.{Rotary}
use Rattle.bn_circuits.specs.Parts.{Parts}

-- a net of rotary elements, and whether the ends behind, by which signals go back, are built
pub record Ways : Type 0 where
  pub net : Parts Rotary
  pub goes_back : Bool
