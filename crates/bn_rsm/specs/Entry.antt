-- Moves of a reversible sequential machine as entries of a table (this project's own profile). In entries the states
-- and ports are counted from 1.
use Rattle.std.specs.Prelude.{◌≡◌, ℕ, ◌+◌, ◌<◌, ◌≤◌, List, [], ◌∷◌, decimal, length, map, max, All}
use Rattle.bn_rsm.specs.declared.rsm_move.RsmMove.{RsmMove}
use Rattle.bn_rsm.specs.declared.entry.TheConstants.{MOST_ENTRIES}
use Rattle.bn_base.specs.declared.limits.TheConstants.{MOST_COUNT}

-- the entry of a move: state, input port, next state, output port
abbrev pub move_entry : RsmMove → List (List ℕ)
move_entry m = decimal (m.state + 1) ∷ decimal (m.line + 1) ∷ decimal (m.next + 1) ∷ decimal (m.out + 1) ∷ []

abbrev pub entries_by : List RsmMove → List (List (List ℕ))
entries_by ms = map move_entry ms

-- the move's numbers are within the range of an entry
pub record IsMove (m : RsmMove) : Type 0 where
  pub state : m.state < MOST_COUNT
  pub line : m.line < MOST_COUNT
  pub next : m.next < MOST_COUNT
  pub out : m.out < MOST_COUNT

-- the number of states, and of ports, that moves need: the greatest that they name, counted from 1
abbrev pub states_named : List RsmMove → ℕ
states_named [] = 0
states_named (m ∷ ms) = max (max (m.state + 1) (m.next + 1)) (states_named ms)

abbrev pub lines_named : List RsmMove → ℕ
lines_named [] = 0
lines_named (m ∷ ms) = max (max (m.line + 1) (m.out + 1)) (lines_named ms)

-- These entries, of which there are 1 to `MOST_ENTRIES`, are read as these moves: each entry is that of its move.
pub record AreReadAs (entries : List (List (List ℕ))) (ms : List RsmMove) : Type 0 where
  pub rows : entries_by ms ≡ entries
  pub within : All IsMove ms
  pub some : 0 < length entries
  pub few : length entries ≤ MOST_ENTRIES
