-- Wires of a net that are added some at a time, before the net is packed.
use Rattle.std.specs.Prelude.{ℕ, List}
use Rattle.bn_circuits.specs.declared.line.Wire.{Wire}
use Rattle.bn_circuits.specs.Wirings.{AreApart, AreFitting}
use Rattle.bn_packed.specs.Ends.{EndList, AreEndsOf, ahead}

-- these ends are where ports lead by the wires of this list, which are distinct at both ends and join ports of this
-- many elements
pub record AreDrawn (count : ℕ) (ws : List Wire) (e : EndList) : Type 0 where
  pub apart : AreApart ws
  pub fitting : AreFitting count ws
  pub ends : AreEndsOf (ahead ws) count e
