-- Lists of wires that are one to one, and the relation between ports that they make.
use Rattle.std.specs.Prelude.{◌≡◌, ℕ, ◌<◌, List, [], ◌∷◌, Some, None, slice_get}
use Rattle.bn_circuits.specs.Circuits.{target, source}
use Rattle.bn_circuits.specs.declared.line.Line.{Line}
use Rattle.bn_circuits.specs.declared.line.Wire.{Wire}

-- no wire leaves an output port that a later one leaves, and none ends at an input port where a later one ends
abbrev pub AreApart : List Wire → Type 0
AreApart [] = Unit {0}
AreApart (w ∷ ws) = (target ws w.from ≡ None) × (source ws w.to ≡ None) × AreApart ws

-- The wires lead from an output port to an input port exactly if the relation holds, and each wire occurs once.
pub record AreWiresOf (Leads : Line → Line → Type 0) (ws : List Wire) : Type 0 where
  pub sound : (from to : Line) → target ws from ≡ Some to → Leads from to
  pub complete : (from to : Line) → Leads from to → target ws from ≡ Some to
  pub apart : AreApart ws

-- each wire leads from a port of `count` rotary elements to a port of them
pub record AreFitting (count : ℕ) (ws : List Wire) : Type 0 where
  pub fits : (n : ℕ) (w : Wire) → slice_get ws n ≡ Some w
      → (w.from.element < count) × (w.from.line < 4) × (w.to.element < count) × (w.to.line < 4)
