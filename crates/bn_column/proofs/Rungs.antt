-- Nets of rotary elements, and the net that is one column.
use Rattle.std.specs.Prelude.{◌≡◌, ℕ, ◌+◌, ◌<◌}
use Rattle.bn_circuits.specs.declared.line.Line.{Line}
use Rattle.bn_element.specs.Rotary.{north, south}
use Rattle.bn_circuits.specs.Circuits.{line_at}

-- the wires between the first r rows and what is below each
pub data IsRung (b r : ℕ) (from to : Line) : Type 0 where
  rung_down : (x : ℕ) → x < r → from ≡ line_at (b + x) south → to ≡ line_at (b + (x + 1)) north → IsRung b r from to
  rung_up : (x : ℕ) → x < r → from ≡ line_at (b + (x + 1)) north → to ≡ line_at (b + x) south → IsRung b r from to
