-- The moment of a run that is shown (this project's own definition).
use Rattle.std.specs.Prelude.{◌≡◌, ℕ, ◌<◌, ◌≤◌}

-- after these steps there is no moment, where `at u a` states that after u steps it is the moment of state a
abbrev pub IsQuiet : (ℕ → ℕ → Type 0) → ℕ → Type 0
IsQuiet at u = (a : ℕ) → at u a → ⊥

-- After t steps, step s and state a are shown: the last step up to t at which there is a moment, with its state; or
-- step 0 with the initial state if there is none.
pub data IsShown (at : ℕ → ℕ → Type 0) (initial t s a : ℕ) : Type 0 where
  moment : s ≤ t → at s a → ((u : ℕ) → s < u → u ≤ t → IsQuiet at u) → IsShown at initial t s a
  start : s ≡ 0 → a ≡ initial → ((u : ℕ) → u ≤ t → IsQuiet at u) → IsShown at initial t s a
