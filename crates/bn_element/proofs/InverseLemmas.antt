-- The inverse of the rotary element, case by case.
use Rattle.std.specs.Prelude.{◌≡◌, ℕ, ◌<◌, ◌==◌, false, refl}
use Rattle.std.proofs.Common.{zero, suc, arith, inl, inr}
use Rattle.std.proofs.lemmas.Bool.Decides.{eqb_tells}
use Rattle.bn_element.specs.Rotary.{rotary}
use Rattle.bn_element.specs.Inverse.{exchanged, exchanged_pair, RotaryIsItsInverse}

low_differs : (a b : ℕ) → a < b → (a == b) ≡ false
low_differs a b low =
    elim (eqb_tells a b) [
      | inl same ↦ absurd (let e = same.1 in omega arith)
      | inr other ↦ other.0
    ]

high_differs : (a b : ℕ) → b < a → (a == b) ≡ false
high_differs a b high =
    elim (eqb_tells a b) [
      | inl same ↦ absurd (let e = same.1 in omega arith)
      | inr other ↦ other.0
    ]

-- no bar has such a line
no_line_of_first : (line : ℕ) → 3 < line → rotary.back 0 line ≡ exchanged_pair (rotary.go 0 (exchanged line))
no_line_of_first line far =
    rw (
      low_differs 0 line (omega arith),
      low_differs 1 line (omega arith),
      low_differs 2 line (omega arith),
      low_differs 3 line far,
      high_differs line 1 (omega arith),
      high_differs line 3 far,
    ) (rw (
      low_differs 0 line (omega arith),
      low_differs 1 line (omega arith),
      low_differs 2 line (omega arith),
      low_differs 3 line far,
    ) refl)

no_line_of_second : (line : ℕ) → 3 < line → rotary.back 1 line ≡ exchanged_pair (rotary.go 1 (exchanged line))
no_line_of_second line far =
    rw (
      low_differs 0 line (omega arith),
      low_differs 1 line (omega arith),
      low_differs 2 line (omega arith),
      low_differs 3 line far,
      high_differs line 1 (omega arith),
      high_differs line 3 far,
    ) (rw (
      low_differs 0 line (omega arith),
      low_differs 1 line (omega arith),
      low_differs 2 line (omega arith),
      low_differs 3 line far,
    ) refl)

-- no bar has such a state
no_state : (state line : ℕ) → 1 < state → rotary.back state line ≡ exchanged_pair (rotary.go state (exchanged line))
no_state state line far = rw (low_differs 0 state (omega arith), low_differs 1 state far) refl

pub rotary-inverse : RotaryIsItsInverse
rotary-inverse zero zero = refl
rotary-inverse zero (suc zero) = refl
rotary-inverse zero (suc (suc zero)) = refl
rotary-inverse zero (suc (suc (suc zero))) = refl
rotary-inverse zero (suc (suc (suc (suc line)))) = no_line_of_first (suc (suc (suc (suc line)))) (omega arith)
rotary-inverse (suc zero) zero = refl
rotary-inverse (suc zero) (suc zero) = refl
rotary-inverse (suc zero) (suc (suc zero)) = refl
rotary-inverse (suc zero) (suc (suc (suc zero))) = refl
rotary-inverse (suc zero) (suc (suc (suc (suc line)))) = no_line_of_second (suc (suc (suc (suc line)))) (omega arith)
rotary-inverse (suc (suc state)) line = no_state (suc (suc state)) line (omega arith)
