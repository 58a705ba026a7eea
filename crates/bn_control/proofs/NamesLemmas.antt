-- The commands of a quadruple by names, and the control's moves along them.
use Rattle.std.specs.Prelude.{ℕ, List, [], ◌∷◌, ◌++◌}
use Rattle.bn_machine.specs.declared.quint.Side.{Side}
use Rattle.bn_quad.specs.Quadruples.{Rule}
use Rattle.bn_network.specs.declared.cell_line.CellLine.TheVariants.{Answer, DoneWrite}
use Rattle.bn_network.specs.Controls.{ControlState, ControlLine, ControlMove, Tape, reads_of, shifts_of, writes_of}
use Rattle.bn_network.specs.Controls.{to_read, to_shift, to_write, done_line}
use Rattle.bn_control.specs.declared.command.Command.{Command}
use Rattle.bn_control.specs.declared.named.NamedMove.{NamedMove}
use Rattle.bn_control.specs.Names.{state_of}
use Rattle.bn_control.specs.Commands.{line_of, sending_of}

-- a command by names: what is sent, and the line of the answer
abbrev pub NamedCommand : Type 0
NamedCommand = ControlMove × ControlLine

-- a move by names
abbrev pub Going : Type 0
Going = ControlState × ControlLine × ControlMove

abbrev pub command_of : Command → NamedCommand
command_of c = (sending_of c.sending, line_of c.answer)

abbrev pub going_of : NamedMove → Going
going_of x = (state_of x.state, line_of x.line, sending_of x.to)

-- the reads of state a after these, the shifts, the writes on the way into state a
abbrev pub read_names : ℕ → List (ℕ × ℕ) → List (ℕ × ℕ) → List NamedCommand
read_names a before [] = []
read_names a before (p ∷ rest) = (to_read a before p, Tape p.0 (Answer p.1)) ∷ read_names a (before ++ (p ∷ [])) rest

abbrev pub shift_names : ℕ → List (ℕ × Side) → List NamedCommand
shift_names n [] = []
shift_names n (p ∷ rest) = (to_shift n p, Tape p.0 (done_line p.1)) ∷ shift_names n rest

abbrev pub write_names : ℕ → List (ℕ × ℕ) → List NamedCommand
write_names a [] = []
write_names a (p ∷ rest) = (to_write a p rest, Tape p.0 DoneWrite) ∷ write_names a rest

-- what comes behind the reads
abbrev pub later_names : ℕ → Rule ℕ → List NamedCommand
later_names n r = shift_names n (shifts_of r) ++ write_names r.to (writes_of r)

-- all commands of a quadruple
abbrev pub names_by : ℕ → Rule ℕ → List NamedCommand
names_by n r = read_names r.from [] (reads_of r) ++ later_names n r

-- what is sent after these commands have been answered
abbrev pub next_name : ControlMove → List NamedCommand → ControlMove
next_name e [] = e
next_name e (c ∷ cs) = c.0

abbrev pub goings : ControlMove → List NamedCommand → List Going
goings e [] = []
goings e (c ∷ cs) = (c.0.0, c.1, next_name e cs) ∷ goings e cs
