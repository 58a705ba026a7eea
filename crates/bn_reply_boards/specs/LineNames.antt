-- The names of the ports of cells and of the control (this project's own profile).
use Rattle.std.specs.Prelude.{ℕ, ◌+◌, ◌-◌, ◌==◌, ◌≤◌, nat_lt, if◌then◌else◌, List, [], ◌∷◌, ◌++◌, codes, decimal}
use Rattle.std.specs.Prelude.{slice_index}
use Rattle.bn_network.specs.declared.cell_line.CellLine.{CellLine}
use Rattle.bn_network.specs.declared.cell_line.CellLine.TheVariants as lines
use Rattle.bn_network.specs.Controls.{lines_before}
use Rattle.bn_network.specs.declared.limits.TheConstants.{MOST_SYMBOLS}
use Rattle.bn_reply_boards.specs.declared.line_names.SymbolCounts.{SymbolCounts}

-- the name of a cell's input port
abbrev pub cell_line_text : CellLine → List ℕ
cell_line_text lines.Read = codes "Rd"
cell_line_text (lines.Write u) = codes "W " ++ decimal u
cell_line_text lines.ShiftRight = codes "SR"
cell_line_text lines.ShiftLeft = codes "SL"
cell_line_text lines.TakeRight = codes "TakeR"
cell_line_text (lines.Answer u) = codes "A " ++ decimal u
cell_line_text lines.DoneWrite = codes "DoneW"
cell_line_text lines.DoneRight = codes "DoneR"
cell_line_text lines.DoneLeft = codes "DoneL"
cell_line_text lines.TakeLeft = codes "TakeL"

-- the answer at place o among those from a tape with z symbols
abbrev pub answer_line : ℕ → ℕ → CellLine
answer_line z o =
    if nat_lt o z then lines.Answer o else if o == z then lines.DoneWrite
    else if o == z + 1 then lines.DoneRight else lines.DoneLeft

-- the name of the control's port by which tape t returns this answer
abbrev pub answer_text : CellLine → ℕ → List ℕ
answer_text answer t = cell_line_text answer ++ (codes " " ++ decimal t)

-- the name of the control's input port i, counted from 0, if the tapes have these numbers of symbols
abbrev pub control_line_text : List ℕ → ℕ → List ℕ
control_line_text zs i =
    if i == 0 then codes "Start"
    else if nat_lt i (lines_before zs 1) then answer_text (answer_line (slice_index zs 0) (i - lines_before zs 0)) 1
    else if nat_lt i (lines_before zs 2) then answer_text (answer_line (slice_index zs 1) (i - lines_before zs 1)) 2
    else answer_text (answer_line (slice_index zs 2) (i - lines_before zs 2)) 3

-- the numbers of symbols, tape by tape
abbrev pub counts_in : SymbolCounts → List ℕ
counts_in z = z.one ∷ z.two ∷ z.three ∷ []

-- each is at most the greatest number of symbols of a tape whose cells can distinguish them
abbrev pub AreFew : SymbolCounts → Type 0
AreFew z = (z.one ≤ MOST_SYMBOLS) × (z.two ≤ MOST_SYMBOLS) × (z.three ≤ MOST_SYMBOLS)
