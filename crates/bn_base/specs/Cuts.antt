-- An input of two parts, before and after its first line that is exactly `%` with its byte 10 (this project's own
-- profile).
use Rattle.std.specs.Prelude.{◌≡◌, ℕ, ◌≤◌, List, [], ◌∷◌, ◌++◌, length, ◌⊎◌}

-- the bytes end a line, or there are none
abbrev pub EndsLine : List ℕ → Type 0
EndsLine bytes = (bytes ≡ []) ⊎ ((front : List ℕ) × (bytes ≡ front ++ 10 ∷ []))

-- the bytes are the first part, that line and the second part, and it is the first such line
pub record IsCut (bytes first second : List ℕ) : Type 0 where
  pub cut : bytes ≡ first ++ 37 ∷ 10 ∷ second
  pub begins : EndsLine first
  pub least : (front rest : List ℕ) → bytes ≡ front ++ 37 ∷ 10 ∷ rest → EndsLine front → length first ≤ length front

-- the bytes contain no such line
abbrev pub IsUncut : List ℕ → Type 0
IsUncut bytes = (front rest : List ℕ) → bytes ≡ front ++ 37 ∷ 10 ∷ rest → EndsLine front → ⊥
