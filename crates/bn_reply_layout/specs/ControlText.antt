-- The lines of the text on the control's columns and ports (this project's own definition).
use Rattle.std.specs.Prelude.{ℕ, ◌+◌, ◌-◌, ◌==◌, nat_lt, if◌then◌else◌, List, [], ◌∷◌, ◌++◌, map, codes, decimal}
use Rattle.std.specs.Prelude.{slice_index, slice_index_or}
use Rattle.bn_bennett.specs.Translation.{Translation}
use Rattle.bn_bennett.specs.Printed.{bennett_state_text}
use Rattle.bn_network.specs.Cells.{cell_line}
use Rattle.bn_network.specs.Controls.{ControlState, Begin, End, Reads, Shifts, Writes, lines_before}
use Rattle.bn_reply.specs.Lines.{line}
use Rattle.bn_reply_boards.specs.LineNames.{cell_line_text, control_line_text}

-- ---- columns of the control

-- some symbols by their numbers, a space before each
abbrev pub numbers_text : List ℕ → List ℕ
numbers_text [] = []
numbers_text (c ∷ cs) = codes " " ++ (decimal c ++ numbers_text cs)

-- the printed names of the states of the machine of quadruples, as `view` and breakpoints use them
abbrev pub state_names : Translation → List (List ℕ)
state_names m = map bennett_state_text m.names

-- a state of the control, with these names of the states of the machine of quadruples
abbrev pub state_text : List (List ℕ) → ControlState → List ℕ
state_text names Begin = codes "begin"
state_text names End = codes "end"
state_text names (Reads a s) = codes "reads " ++ (slice_index_or names a [] ++ numbers_text s)
state_text names (Shifts n t) = codes "shifts " ++ (decimal n ++ (codes " " ++ decimal t))
state_text names (Writes a t u) =
    codes "writes " ++ (slice_index_or names a [] ++ (codes " " ++ (decimal t ++ numbers_text u)))

abbrev pub column_line : List (List ℕ) → ℕ → ControlState → List ℕ
column_line names j q = line (codes "column " ∷ decimal j ∷ codes " of control " ∷ state_text names q ∷ [])

-- the lines of the control's states, the first of which has this number
abbrev pub column_lines : List (List ℕ) → ℕ → List ControlState → List ℕ
column_lines names j [] = []
column_lines names j (q ∷ qs) = column_line names j q ++ column_lines names (j + 1) qs

-- ---- lines of the control

-- the name of the control's port for this command to tape t
abbrev pub command_text : ℕ → ℕ → ℕ → List ℕ
command_text z o t = cell_line_text (cell_line z o) ++ (codes " " ++ decimal t)

-- the name of the control's output port i, counted from 0, where the tapes have this many symbols
abbrev pub output_text : List ℕ → ℕ → List ℕ
output_text zs i =
    if i == 0 then codes "End"
    else if nat_lt i (lines_before zs 1) then command_text (slice_index zs 0) (i - lines_before zs 0) 1
    else if nat_lt i (lines_before zs 2) then command_text (slice_index zs 1) (i - lines_before zs 1) 2
    else command_text (slice_index zs 2) (i - lines_before zs 2) 3

-- the names of port i, in and out
abbrev pub names_text : List ℕ → ℕ → List ℕ
names_text zs i = line (control_line_text zs i ∷ codes " out " ∷ output_text zs i ∷ [])

abbrev pub control_line_line : List ℕ → ℕ → List ℕ
control_line_line zs i = codes "line " ++ (decimal i ++ (codes " of control in " ++ names_text zs i))
