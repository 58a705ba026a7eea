-- The state in which one cell of a network starts.
use Rattle.std.specs.Prelude.{ℕ, pos, ◌-ℤ◌, List}
use Rattle.bn_machine.specs.Tape.{word_tape}
use Rattle.bn_network.specs.Cells.{state_number}
use Rattle.bn_network.specs.Networks.{cell_of}

-- the state of cell j, counted from the left from 0, of a tape of z symbols that contains this word from cell 1 on,
-- with `left` cells left of position 0
abbrev pub start_state : ℕ → ℕ → List ℕ → ℕ → ℕ
start_state z left word j = state_number z (cell_of (word_tape word) (pos j -ℤ pos left))
