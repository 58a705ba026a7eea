-- The order of wires: by the element that they leave, then by the output port.
use Rattle.std.specs.Prelude.{◌≡◌, ℕ, ◌<◌, ◌⊎◌, List, [], ◌∷◌, Some, slice_get}
use Rattle.bn_circuits.specs.declared.line.Line.{Line}
use Rattle.bn_circuits.specs.declared.line.Wire.{Wire}

-- the first port comes before the second
abbrev pub ComesBefore : Line → Line → Type 0
ComesBefore a b = (a.element < b.element) ⊎ ((a.element ≡ b.element) × (a.line < b.line))

-- the port comes before each port that one of these wires leaves
abbrev pub ComesFirst : Line → List Wire → Type 0
ComesFirst line [] = Unit {0}
ComesFirst line (w ∷ ws) = ComesBefore line w.from × ComesFirst line ws

-- each wire leaves a port that comes before those of the wires after it
abbrev pub AreInOrder : List Wire → Type 0
AreInOrder [] = Unit {0}
AreInOrder (w ∷ ws) = ComesFirst w.from ws × AreInOrder ws

-- no two wires of a list in order leave the same port; in particular none occurs twice
abbrev pub WiresStandOnce : Type 0
WiresStandOnce =
    (wires : List Wire) (i j : ℕ) (v w : Wire) → AreInOrder wires → slice_get wires i ≡ Some v
    → slice_get wires j ≡ Some w → v.from ≡ w.from → i ≡ j
