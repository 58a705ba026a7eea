-- The text of a drive (this project's own profile): by which exit the signal left, or where it is, the element steps,
-- the steps of the machine of quadruples, and what the cells show.
use Rattle.std.specs.Prelude.{ℕ, List, [], ◌∷◌, ◌++◌, Option, Some, None, codes, decimal, slice_index_or}
use Rattle.bn_circuits.specs.declared.config.Config.{Config}
use Rattle.bn_circuits.specs.declared.place.Place.{Place}
use Rattle.bn_machine.specs.Tape.{scanned}
use Rattle.bn_quad.specs.Quadruples.{Configuration}
use Rattle.bn_qtable.specs.Rows.{QuadTable}
use Rattle.bn_bennett_laws.specs.Steps.{Exit, Finished, Stopped, Leaving}
use Rattle.bn_boards.specs.declared.spelled.SpelledTape.{SpelledTape}
use Rattle.bn_boards.specs.Layouts.{spelled_tape}
use Rattle.bn_netlist_laws.specs.Sentences.{line_of_place, line_text}
use Rattle.bn_reply.specs.Lines.{line, position_text}
use Rattle.bn_reply_relations.specs.RunText.{elements_line, steps_line, quadruple_line, window_line, head_text}
use Rattle.bn_boards.specs.Builds.{Build, build_elements}

-- the name of a number
abbrev pub name_in : List (List ℕ) → ℕ → List ℕ
name_in names n = slice_index_or names n []

-- the exit: at the end; stuck in a state, with the symbols that the three heads scan; or a tape's window left
abbrev pub drive_exit_line : QuadTable → Configuration ℕ → Exit → List ℕ
drive_exit_line t d Finished = line (codes "exit end" ∷ [])
drive_exit_line t d Stopped =
    line (codes "exit stuck " ∷ name_in t.names.states d.state ∷ codes " " ∷ name_in t.names.one (scanned d.one)
    ∷ codes " " ∷ name_in t.names.two (scanned d.two) ∷ codes " " ∷ name_in t.names.three (scanned d.three) ∷ [])
drive_exit_line t d (Leaving tape s) = window_line tape s

-- where the signal is inside: about to enter an element by a port
abbrev pub inside_line : Place → List ℕ
inside_line p = line (codes "inside " ∷ line_text (line_of_place p) ∷ [])

-- the cells of a tape whose symbols have these names, each after a space, with a question mark for a cell that shows
-- no symbol
abbrev pub drive_cells_text : List (List ℕ) → List (Option ℕ) → List ℕ
drive_cells_text names [] = []
drive_cells_text names (None ∷ cs) = codes " ?" ++ drive_cells_text names cs
drive_cells_text names (Some s ∷ cs) = codes " " ++ (name_in names s ++ drive_cells_text names cs)

-- the line of a tape whose symbols have these names: its number, its first cell, its head, and its cells
abbrev pub drive_tape_line : List (List ℕ) → ℕ → SpelledTape → List ℕ
drive_tape_line names tape s =
    line (codes "tape " ∷ decimal tape ∷ codes " from " ∷ position_text s.first ∷ codes " head " ∷ head_text s.head
    ∷ codes ":" ∷ drive_cells_text names s.cells ∷ [])

-- the whole text: for a table's machine with this build, with this line for the exit, after this many steps of the
-- machine, in this configuration of the circuit
abbrev pub drive_text : QuadTable → Build → List ℕ → ℕ → Config → List ℕ
drive_text t f exit quadruple_steps d =
    elements_line (build_elements f) ++ (exit ++ (steps_line d.steps ++ (quadruple_line quadruple_steps
    ++ (drive_tape_line t.names.one 1 (spelled_tape f.layout d.states 1)
    ++ (drive_tape_line t.names.two 2 (spelled_tape f.layout d.states 2)
    ++ drive_tape_line t.names.three 3 (spelled_tape f.layout d.states 3))))))
