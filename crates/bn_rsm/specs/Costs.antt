-- The cost of a move of a machine when the machine is built as a bank of columns of rotary elements: a number of
-- element steps, computed from numbers alone (this project's own profile). States and ports are counted from 0. A
-- machine with n states and k input ports is a bank of n columns of k rows.
use Rattle.std.specs.Prelude.{ℕ, ◌+◌, ◌-◌, ◌*◌, Option, Some, None}
use Rattle.bn_element.specs.Tables.{Table}

-- the cost of passing one unmarked column along row i of its k rows
abbrev pub pass_cost : ℕ → ℕ → ℕ
pass_cost k i = 2 * (k - (i + 1)) + 4

-- the cost of entering the marked column, which turns the signal back, or of entering a column from behind, which then
-- becomes the marked one
abbrev pub turn_cost : ℕ → ℕ
turn_cost k = k + 2

-- the cost of the move from state q and input port i to state r and output port o: past the columns before q, into
-- column q, into column r, and past the columns after r
abbrev pub move_cost : ℕ → ℕ → ℕ → ℕ → ℕ → ℕ → ℕ
move_cost n k q i r o = q * pass_cost k i + 2 * turn_cost k + (n - (r + 1)) * pass_cost k o

-- the cost from state q and input port i to the loose output, where the pair has no move
abbrev pub loose_cost : ℕ → ℕ → ℕ → ℕ
loose_cost k q i = q * pass_cost k i + turn_cost k

-- one of these two costs, by where the table leads
abbrev pub cost_by : ℕ → ℕ → ℕ → ℕ → Option (ℕ × ℕ) → ℕ
cost_by n k q i None = loose_cost k q i
cost_by n k q i (Some m) = move_cost n k q i m.0 m.1

-- the cost of a step of a table from a state and an input port
abbrev pub table_cost : Table → ℕ → ℕ → ℕ
table_cost t q i = cost_by t.states t.inputs q i (t.go q i)
