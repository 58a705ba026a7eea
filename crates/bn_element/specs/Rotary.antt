-- The rotary element. Its bar lies along west and east (state H) or along north and south (state V). A signal that
-- enters along the bar goes straight on and changes nothing; one that enters across the bar turns right and turns the
-- bar. The idea and the name are Morita's (2017); the names of ports and states are this project's own profile.
use Rattle.std.specs.Prelude.{ℕ, List, [], ◌∷◌}
use Rattle.bn_element.specs.Tables.{Table, Move, table_by}

-- the two states of the bar
abbrev pub horizontal : ℕ
horizontal = 0

abbrev pub vertical : ℕ
vertical = 1

-- the four ports, in and out
abbrev pub north : ℕ
north = 0

abbrev pub east : ℕ
east = 1

abbrev pub south : ℕ
south = 2

abbrev pub west : ℕ
west = 3

-- a move: in this state, in by this port, to that state, out by that port
abbrev pub moves : ℕ → ℕ → ℕ → ℕ → Move
moves state input next output = record { state = state; input = input; next = next; output = output }

-- the eight moves
abbrev pub rotary_moves : List Move
rotary_moves =
    moves horizontal north vertical west
    ∷ moves horizontal east horizontal west
    ∷ moves horizontal south vertical east
    ∷ moves horizontal west horizontal east
    ∷ moves vertical north vertical south
    ∷ moves vertical east horizontal north
    ∷ moves vertical south vertical north
    ∷ moves vertical west horizontal south
    ∷ []

-- the rotary element as a table
abbrev pub rotary : Table
rotary = table_by 2 4 4 rotary_moves
