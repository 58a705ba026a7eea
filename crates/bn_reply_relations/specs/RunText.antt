-- The text of a run of a circuit (this project's own profile): what the configuration shows in which the run ends.
use Rattle.std.specs.Prelude.{ℕ, ◌+◌, zero, suc, ◌==◌, if◌then◌else◌, drop, ℤ, List, [], ◌∷◌, ◌++◌}
use Rattle.std.specs.Prelude.{Option, Some, None, codes, decimal, slice_index_or}
use Rattle.bn_circuits.specs.declared.place.Place.{Place}
use Rattle.bn_circuits.specs.declared.config.Config.{Config}
use Rattle.bn_machine.specs.Outcome.{Limits}
use Rattle.bn_machine.specs.Tape.{Tape}
use Rattle.bn_machine.specs.declared.quint.Side.{Side}
use Rattle.bn_machine.specs.declared.quint.Side.TheVariants as side
use Rattle.bn_netlist_laws.specs.Sentences.{line_of_place, line_text}
use Rattle.bn_table.specs.Rows.{Named}
use Rattle.bn_bennett.specs.Translation.{name_of}
use Rattle.bn_bennett.specs.Meaning.{machine_state_by}
use Rattle.bn_bennett.specs.declared.translated.MachineState.{MachineState}
use Rattle.bn_bennett.specs.declared.translated.MachineState.TheVariants.{AtState, Within}
use Rattle.bn_boards.specs.Boards.{size}
use Rattle.bn_boards.specs.declared.exit.Exit.{Exit}
use Rattle.bn_boards.specs.declared.exit.Exit.TheVariants.{Inside, End, Stuck, Window, Unnamed}
use Rattle.bn_boards.specs.declared.spelled.SpelledTape.{SpelledTape}
use Rattle.bn_boards.specs.Layouts.{spelled_tape, tape_in}
use Rattle.bn_boards.specs.Flats.{Flat}
use Rattle.bn_reply.specs.Lines.{line, position_text}
use Rattle.bn_reply.specs.Words.{letters_of}

-- ---- where the signal is

-- the name of the table's state in which the machine is; empty within a quintuple's step
abbrev pub state_text : Named → MachineState → List ℕ
state_text t (AtState j) = slice_index_or t.names j []
state_text t (Within m) = []

-- the word for a side
abbrev pub side_text : Side → List ℕ
side_text side.Left = codes "left"
side_text side.Right = codes "right"

-- the line of a machine that is stuck in a state at a symbol
abbrev pub stuck_line : Named → List ℕ → ℕ → List ℕ
stuck_line t state symbol = line (codes "exit stuck " ∷ state ∷ codes " " ∷ letters_of t (symbol ∷ []) ∷ [])

-- the line of a head that would leave a tape's window at this side
abbrev pub window_line : ℕ → Side → List ℕ
window_line tape s = line (codes "exit window " ∷ decimal tape ∷ codes " " ∷ side_text s ∷ [])

-- the line that says where the signal is: inside, with the place, or by which exit it has left
abbrev pub exit_line : Named → Flat → Place → Exit → List ℕ
exit_line t f p Inside = line (codes "inside " ∷ line_text (line_of_place p) ∷ [])
exit_line t f p End = line (codes "exit end" ∷ [])
exit_line t f p (Stuck a c) =
    stuck_line t (state_text t (machine_state_by f.translation.final_state (name_of f.translation a))) c
exit_line t f p (Window n s) = window_line n s
exit_line t f p Unnamed = []

-- ---- what the cells show

-- the position of the head, or a question mark if no cell shows it
abbrev pub head_text : Option ℤ → List ℕ
head_text None = codes "?"
head_text (Some p) = position_text p

-- a symbol of the history: the blank, or a quintuple's number
abbrev pub number_text : ℕ → List ℕ
number_text zero = codes "_"
number_text (suc m) = decimal (suc m)

-- a symbol on this tape: the blank or a quintuple's number on tape 2, and the table's letter for it on tapes 1 and 3
abbrev pub symbol_text : Named → ℕ → ℕ → List ℕ
symbol_text t tape s = if tape == 2 then number_text s else letters_of t (s ∷ [])

-- the cells of this tape, each after a space, with a question mark for a cell that shows no symbol
abbrev pub cells_text : Named → ℕ → List (Option ℕ) → List ℕ
cells_text t tape [] = []
cells_text t tape (None ∷ cs) = codes " ?" ++ cells_text t tape cs
cells_text t tape (Some s ∷ cs) = codes " " ++ (symbol_text t tape s ++ cells_text t tape cs)

-- the line of a tape: its number, its first cell, its head, and its cells
abbrev pub tape_line : Named → ℕ → SpelledTape → List ℕ
tape_line t tape s =
    line (codes "tape " ∷ decimal tape ∷ codes " from " ∷ position_text s.first ∷ codes " head " ∷ head_text s.head
    ∷ codes ":" ∷ cells_text t tape s.cells ∷ [])

-- the lines of three tapes
abbrev pub tape_lines : Named → SpelledTape → SpelledTape → SpelledTape → List ℕ
tape_lines t one two three = tape_line t 1 one ++ tape_line t 2 two ++ tape_line t 3 three

-- the lines of three tapes, as the cells of a window spell them
abbrev pub tapes_text : Named → Limits → (Tape × Tape × Tape) → List ℕ
tapes_text t l x =
    tape_line t 1 (tape_in l.left (l.left + l.right + 1) x.0) ++ tape_line t 2 (tape_in 0 (l.steps + 1) x.1)
    ++ tape_line t 3 (tape_in 0 (l.output + 1) x.2)

-- the longest word without blanks at the front of these cells
abbrev pub output_from : List (Option ℕ) → List ℕ
output_from [] = []
output_from (None ∷ cs) = []
output_from (Some zero ∷ cs) = []
output_from (Some (suc s) ∷ cs) = suc s ∷ output_from cs

-- ---- the lines of a run

-- the line of the number of elements
abbrev pub elements_line : ℕ → List ℕ
elements_line count = line (codes "elements " ∷ decimal count ∷ [])

-- the line of the number of element steps
abbrev pub steps_line : ℕ → List ℕ
steps_line count = line (codes "steps " ∷ decimal count ∷ [])

-- the line of the steps of the reversible machine
abbrev pub quadruple_line : ℕ → List ℕ
quadruple_line count = line (codes "quadruple steps " ∷ decimal count ∷ [])

-- the line of an output
abbrev pub output_line : Named → List ℕ → List ℕ
output_line t y = line (codes "output =" ∷ letters_of t y ∷ [])

-- the three tapes that the cells of a circuit with these bars show
abbrev pub shown_lines : Named → Flat → List ℕ → List ℕ
shown_lines t f states =
    tape_lines t (spelled_tape f.layout states 1) (spelled_tape f.layout states 2) (spelled_tape f.layout states 3)

-- the lines after that of the steps: the tapes; and only at the end, also the steps of the machine of quadruples and
-- the output, which is read from cell 1 of tape 3
abbrev pub rest_text : Named → Flat → Config → ℕ → Exit → List ℕ
rest_text t f d quadruple_steps End =
    quadruple_line quadruple_steps ++ (shown_lines t f d.states
    ++ output_line t (output_from (drop 1 (spelled_tape f.layout d.states 3).cells)))
rest_text t f d quadruple_steps _ = shown_lines t f d.states

-- the text of a run that ends in this configuration, with this exit
abbrev pub run_text : Named → Flat → Config → ℕ → Exit → List ℕ
run_text t f d quadruple_steps exit =
    elements_line (size f.network.tables) ++ (exit_line t f d.place exit
    ++ (steps_line d.steps ++ rest_text t f d quadruple_steps exit))
