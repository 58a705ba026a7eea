-- Wires as spans of positions, with the elements of a circuit side by side, and the number of wires that cover a
-- position (this project's own profile).
use Rattle.std.specs.Prelude.{◌≡◌, ◌≢◌, ◌↔◌, ℕ, ◌+◌, ◌*◌, ◌<◌, ◌≤◌, min, max, leb, ◌&&◌, Bool, List, Some}
use Rattle.std.specs.List.{count_by}
use Rattle.bn_circuits.specs.Circuits.{target}
use Rattle.bn_circuits.specs.declared.line.Line.{Line}
use Rattle.bn_circuits.specs.declared.line.Wire.{Wire}
use Rattle.bn_plan.specs.Lists.{Pairwise}
use Rattle.bn_lists.specs.Lists.{Has}

-- Each element takes eight positions, for its outputs north, east, south and west, and then for its inputs in the same
-- order. This is the position of an output port.
abbrev pub output_position : Line → ℕ
output_position l = 8 * l.element + l.line

-- the position of an input port
abbrev pub input_position : Line → ℕ
input_position l = 8 * l.element + 4 + l.line

-- the lesser of the positions of the two ends of a wire; below, the greater
unfoldable pub lesser : Wire → ℕ
lesser w = min (output_position w.from) (input_position w.to)

unfoldable pub greater : Wire → ℕ
greater w = max (output_position w.from) (input_position w.to)

-- a wire covers all positions from its lesser to its greater end
pub record Covers (p : ℕ) (w : Wire) : Type 0 where
  pub starts : lesser w ≤ p
  pub ends : p ≤ greater w

-- the test whether a wire covers a position
abbrev pub covers : ℕ → Wire → Bool
covers p w = leb (lesser w) p && leb p (greater w)

-- two wires fit on one track if no position is covered by both
abbrev pub Fit : Wire → Wire → Type 0
Fit v w = (p : ℕ) → Covers p v → Covers p w → ⊥

-- the density of a position: the number of wires that cover it
abbrev pub density : List Wire → ℕ → ℕ
density ws p = count_by (covers p) ws

-- d is the greatest density, and p the least position of that density
pub record IsDensest (ws : List Wire) (d p : ℕ) : Type 0 where
  pub reached : density ws p ≡ d
  pub greatest : (q : ℕ) → density ws q ≤ d
  pub least : (q : ℕ) → q < p → density ws q < d

-- both ports of the wire have numbers below 4, like the ports of a rotary element
pub record HasFourLines (w : Wire) : Type 0 where
  pub from : w.from.line < 4
  pub to : w.to.line < 4

-- the wires join ports of elements with four inputs and four outputs; no two leave the same port, and no two lead to
-- the same port
pub record AreRotary (ws : List Wire) : Type 0 where
  pub lines : (w : Wire) → Has ws w → HasFourLines w
  pub from_apart : Pairwise (λ (v w : Wire). v.from ≢ w.from) ws
  pub to_apart : Pairwise (λ (v w : Wire). v.to ≢ w.to) ws

-- The list contains exactly the wires of a circuit along which a signal can go, each listed once.
pub record AreWiresOf (circuit ws : List Wire) : Type 0 where
  pub each : (w : Wire) → Has ws w ↔ (target circuit w.from ≡ Some w.to)
  pub once : Pairwise (λ (v w : Wire). v.from ≢ w.from) ws
