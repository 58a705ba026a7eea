-- The inverse of the rotary element is the rotary element with east and west exchanged.
use Rattle.std.specs.Prelude.{◌≡◌, ℕ, ◌==◌, if◌then◌else◌, Option, Some, None}
use Rattle.bn_element.specs.Rotary.{rotary, east, west}

-- the port with east and west exchanged
abbrev pub exchanged : ℕ → ℕ
exchanged line = if line == east then west else if line == west then east else line

-- a pair of state and port with its port exchanged, if there is a pair
abbrev pub exchanged_pair : Option (ℕ × ℕ) → Option (ℕ × ℕ)
exchanged_pair None = None
exchanged_pair (Some m) = Some (m.0, exchanged m.1)

-- A step back is a step with east and west exchanged, at the input and at the output.
abbrev pub RotaryIsItsInverse : Type 0
RotaryIsItsInverse = (state line : ℕ) → rotary.back state line ≡ exchanged_pair (rotary.go state (exchanged line))
