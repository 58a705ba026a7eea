-- A tape cell (own to this project), by names and by numbers: a reversible sequential machine (Morita 2017) that
-- stores one symbol, and whether the head is there. Symbols are counted from 0, the blank first; z is the number of
-- symbols.
use Rattle.std.specs.Prelude.{ℕ, zero, suc, ◌+◌, ◌-◌, ◌*◌, ◌<◌, ◌==◌, nat_lt, Option, Some, None, if◌then◌else◌}
use Rattle.bn_element.specs.Tables.{Table}
use Rattle.bn_network.specs.declared.cell_line.CellLine.{CellLine}
use Rattle.bn_network.specs.declared.cell_line.CellLine.TheVariants.{Read, Write, ShiftRight, ShiftLeft, TakeRight}
use Rattle.bn_network.specs.declared.cell_line.CellLine.TheVariants.{Answer, DoneWrite, DoneRight, DoneLeft, TakeLeft}

-- ---- names

-- a cell without the head (`Plain`) or with it (`Head`), and its symbol
pub data CellState : Type 0 where
  Plain : ℕ → CellState
  Head : ℕ → CellState

-- with the head, a blank cell stores the symbol u, and only a blank cell does; backward, only a blank cell can have
-- replied to a read
abbrev pub written : ℕ → ℕ → Option (CellState × CellLine)
written zero u = Some (Head u, DoneWrite)
written (suc t) u = None

abbrev pub never_read : ℕ → ℕ → Option (CellState × CellLine)
never_read zero t = Some (Head t, Read)
never_read (suc u) t = None

-- A cell without the head passes each signal on unchanged, but accepts the head when it arrives. The cell with the
-- head replies, or passes the head on. The other pairs have no move.
abbrev pub cell_go : CellState → CellLine → Option (CellState × CellLine)
cell_go (Plain t) TakeRight = Some (Head t, DoneRight)
cell_go (Plain t) TakeLeft = Some (Head t, DoneLeft)
cell_go (Plain t) l = Some (Plain t, l)
cell_go (Head t) Read = Some (Head 0, Answer t)
cell_go (Head t) (Write u) = written t u
cell_go (Head t) ShiftRight = Some (Plain t, TakeRight)
cell_go (Head t) ShiftLeft = Some (Plain t, TakeLeft)
cell_go (Head t) _ = None

-- the pair of state and input port from which a move leads to this state and output port, if there is one
abbrev pub cell_back : CellState → CellLine → Option (CellState × CellLine)
cell_back (Plain t) TakeRight = Some (Head t, ShiftRight)
cell_back (Plain t) TakeLeft = Some (Head t, ShiftLeft)
cell_back (Plain t) l = Some (Plain t, l)
cell_back (Head u) (Answer t) = never_read u t
cell_back (Head u) DoneWrite = Some (Head 0, Write u)
cell_back (Head t) DoneRight = Some (Plain t, TakeRight)
cell_back (Head t) DoneLeft = Some (Plain t, TakeLeft)
cell_back (Head t) _ = None

-- the symbol of a port, if it has one, is among the z symbols
abbrev pub IsLineOf : ℕ → CellLine → Type 0
IsLineOf z (Write u) = u < z
IsLineOf z (Answer u) = u < z
IsLineOf z _ = Unit {0}

-- ---- numbers, from 0

abbrev pub line_number : ℕ → CellLine → ℕ
line_number z Read = 0
line_number z (Write u) = 1 + u
line_number z ShiftRight = z + 1
line_number z ShiftLeft = z + 2
line_number z TakeRight = z + 3
line_number z (Answer u) = z + 4 + u
line_number z DoneWrite = 2 * z + 4
line_number z DoneRight = 2 * z + 5
line_number z DoneLeft = 2 * z + 6
line_number z TakeLeft = 2 * z + 7

abbrev pub state_number : ℕ → CellState → ℕ
state_number z (Plain t) = t
state_number z (Head t) = z + t

-- the port and the state with a number
abbrev pub cell_line : ℕ → ℕ → CellLine
cell_line z n =
    if n == 0 then Read else if nat_lt n (z + 1) then Write (n - 1)
    else if n == z + 1 then ShiftRight else if n == z + 2 then ShiftLeft else if n == z + 3 then TakeRight
    else if nat_lt n (2 * z + 4) then Answer (n - (z + 4)) else if n == 2 * z + 4 then DoneWrite
    else if n == 2 * z + 5 then DoneRight else if n == 2 * z + 6 then DoneLeft else TakeLeft

abbrev pub state_of : ℕ → ℕ → CellState
state_of z n = if nat_lt n z then Plain n else Head (n - z)

-- the number of input ports of a cell, and of its output ports
abbrev pub cell_line_count : ℕ → ℕ
cell_line_count z = 2 * z + 8

-- a move by the numbers of its state and port
abbrev pub by_numbers : ℕ → Option (CellState × CellLine) → Option (ℕ × ℕ)
by_numbers z None = None
by_numbers z (Some m) = Some (state_number z m.0, line_number z m.1)

-- the move, if the numbers of state and port are in range
abbrev pub within_cell : ℕ → ℕ → ℕ → Option (ℕ × ℕ) → Option (ℕ × ℕ)
within_cell z q i m = if nat_lt q (2 * z) then (if nat_lt i (cell_line_count z) then m else None) else None

-- the cell for z symbols as an element
abbrev pub cell_table : ℕ → Table
cell_table z = record {
  states = 2 * z;
  inputs = cell_line_count z;
  outputs = cell_line_count z;
  go = λ q i. within_cell z q i (by_numbers z (cell_go (state_of z q) (cell_line z i)));
  back = λ r o. within_cell z r o (by_numbers z (cell_back (state_of z r) (cell_line z o)));
}
