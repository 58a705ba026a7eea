-- The commands of a quadruple as the program stores them.
use Rattle.std.specs.Prelude.{ℕ, List, [], ◌∷◌, ◌++◌, length, Option, Some, None}
use Rattle.bn_machine.specs.declared.quint.Shift.{Shift as HeadShift}
use Rattle.bn_machine.specs.declared.quint.Shift.TheVariants as way
use Rattle.bn_quad.specs.Quadruples.{Rule}
use Rattle.bn_quad.specs.Kept.{read_of, act_of}
use Rattle.bn_quad.specs.declared.quad.Act.{Act}
use Rattle.bn_quad.specs.declared.quad.Act.TheVariants.{Write, Shift}
use Rattle.bn_network.specs.Controls as control
use Rattle.bn_network.specs.declared.cell_line.CellLine.{CellLine}
use Rattle.bn_network.specs.declared.cell_line.CellLine.TheVariants as line
use Rattle.bn_control.specs.declared.name.StateName.{StateName}
use Rattle.bn_control.specs.declared.name.StateName.TheVariants.{Reads, Shifts, Writes}
use Rattle.bn_control.specs.declared.name.Symbols.{Symbols}
use Rattle.bn_control.specs.declared.line.Line.{Line}
use Rattle.bn_control.specs.declared.line.Line.TheVariants.{Outside, Tape}
use Rattle.bn_control.specs.declared.line.Sending.{Sending}
use Rattle.bn_control.specs.declared.command.Command.{Command}
use Rattle.bn_control.specs.declared.named.NamedMove.{NamedMove}
use Rattle.bn_control.specs.Names.{listed, symbols_of, state_of}
use Rattle.bn_control.specs.Shown.{written}

-- the port, and the pair of state and port, that are stored in this form
abbrev pub line_of : Line → control.ControlLine
line_of Outside = control.Outside
line_of (Tape t l) = control.Tape t l

abbrev pub sending_of : Sending → control.ControlMove
sending_of s = (state_of s.state, line_of s.line)

-- the command sent to a tape, with the state that waits for its reply
abbrev pub command : StateName → ℕ → CellLine → CellLine → Command
command q t sent answer = record { sending = record { state = q; line = Tape t sent }; answer = Tape t answer }

-- the read of a tape, if it is read
abbrev pub read_command : ℕ → Symbols → ℕ → Option ℕ → List Command
read_command a before t None = []
read_command a before t (Some c) = command (Reads a (length (listed before)) before) t line.Read (line.Answer c) ∷ []

-- the shift of a tape, if it is shifted other than by 0
abbrev pub shift_by : ℕ → ℕ → HeadShift → List Command
shift_by n t way.Left = command (Shifts n t) t line.ShiftLeft line.DoneLeft ∷ []
shift_by n t way.Stay = []
shift_by n t way.Right = command (Shifts n t) t line.ShiftRight line.DoneRight ∷ []

abbrev pub shift_command : ℕ → ℕ → Act → List Command
shift_command n t (Write c) = []
shift_command n t (Shift s) = shift_by n t s

-- the write on a tape, if it is written
abbrev pub write_command : ℕ → Symbols → ℕ → Act → List Command
write_command a rest t (Write c) = command (Writes a (record { 0 = t }) rest) t (line.Write c) line.DoneWrite ∷ []
write_command a rest t (Shift s) = []

-- the reads by rising tape, the shifts by rising tape, the writes by falling tape
abbrev pub read_commands : Rule ℕ → List Command
read_commands r =
    read_command r.from (symbols_of None None) 1 (read_of r.one)
    ++ (read_command r.from (symbols_of (read_of r.one) None) 2 (read_of r.two)
    ++ read_command r.from (symbols_of (read_of r.one) (read_of r.two)) 3 (read_of r.three))

abbrev pub shift_commands : ℕ → Rule ℕ → List Command
shift_commands n r =
    shift_command n 1 (act_of r.one)
    ++ (shift_command n 2 (act_of r.two) ++ shift_command n 3 (act_of r.three))

abbrev pub write_commands : Rule ℕ → List Command
write_commands r =
    write_command r.to (symbols_of (written (act_of r.two)) (written (act_of r.one))) 3 (act_of r.three)
    ++ (write_command r.to (symbols_of (written (act_of r.one)) None) 2 (act_of r.two)
    ++ write_command r.to (symbols_of None None) 1 (act_of r.one))

-- all commands of the quadruple with this number
abbrev pub commands_by : ℕ → Rule ℕ → List Command
commands_by n r = read_commands r ++ (shift_commands n r ++ write_commands r)

-- ---- moves by names

-- what is sent after a command: the next command, or `last` after the last one
abbrev pub next_of : Sending → List Command → Sending
next_of last [] = last
next_of last (c ∷ cs) = c.sending

-- the moves from each command of a quadruple to the next, and from the last one to `last`
abbrev pub moves_by : Sending → List Command → List NamedMove
moves_by last [] = []
moves_by last (c ∷ cs) = record { state = c.sending.state; line = c.answer; to = next_of last cs } ∷ moves_by last cs
