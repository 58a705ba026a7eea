-- The wires of a circuit while they are drawn: those inside the first parts, then those between parts, by the first
-- wires of the network.
use Rattle.std.specs.Prelude.{◌≡◌, ℕ, ◌<◌, List, length, Some, slice_get, ◌⊎◌}
use Rattle.bn_circuits.specs.declared.line.Line.{Line}
use Rattle.bn_circuits.specs.declared.line.Wire.{Wire}
use Rattle.bn_mixed_networks.specs.Parts.{Part, IsPartWire, base, part_input, part_output}

-- an own wire of one of the first parts
pub record IsOwnBelow (ps : List Part) (c : ℕ) (from to : Line) : Type 0 where
  pub at_part : ℕ
  pub part : Part
  pub low : at_part < c
  pub has : slice_get ps at_part ≡ Some part
  pub wire : IsPartWire part (base ps at_part) from to

-- a wire between parts that one of the first wires of the network becomes
pub record IsBetweenBelow (ps : List Part) (ws : List Wire) (c : ℕ) (from to : Line) : Type 0 where
  pub number : ℕ
  pub wire : Wire
  pub first : Part
  pub second : Part
  pub low : number < c
  pub listed : slice_get ws number ≡ Some wire
  pub first_is : slice_get ps wire.from.element ≡ Some first
  pub second_is : slice_get ps wire.to.element ≡ Some second
  pub leaves : from ≡ part_output first (base ps wire.from.element) wire.from.line
  pub ends : to ≡ part_input second (base ps wire.to.element) wire.to.line

-- all own wires, and these
abbrev pub IsWiredBelow : List Part → List Wire → ℕ → Line → Line → Type 0
IsWiredBelow ps ws c from to = IsOwnBelow ps (length ps) from to ⊎ IsBetweenBelow ps ws c from to

-- the wire between parts that a wire of the network becomes
pub record IsMapped (ps : List Part) (w v : Wire) : Type 0 where
  pub first : Part
  pub second : Part
  pub first_is : slice_get ps w.from.element ≡ Some first
  pub second_is : slice_get ps w.to.element ≡ Some second
  pub leaves : v.from ≡ part_output first (base ps w.from.element) w.from.line
  pub ends : v.to ≡ part_input second (base ps w.to.element) w.to.line
