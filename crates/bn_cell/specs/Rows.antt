-- The moves of a table, state by state and, for each state, by rising port.
use Rattle.std.specs.Prelude.{ℕ, zero, suc, List, [], ◌∷◌, ◌++◌, Option, Some, None}
use Rattle.bn_element.specs.Tables.{Table}
use Rattle.bn_rsm.specs.declared.rsm_move.RsmMove.{RsmMove}

-- the move from this state and port, if there is one
abbrev pub move_at : ℕ → ℕ → Option (ℕ × ℕ) → List RsmMove
move_at q i None = []
move_at q i (Some m) = record { state = q; line = i; next = m.0; out = m.1 } ∷ []

-- the moves from a state by the first n ports
abbrev pub row : Table → ℕ → ℕ → List RsmMove
row t q zero = []
row t q (suc n) = row t q n ++ move_at q n (t.go q n)

-- the moves from the first n states
abbrev pub rows : Table → ℕ → List RsmMove
rows t zero = []
rows t (suc q) = rows t q ++ row t q t.inputs
