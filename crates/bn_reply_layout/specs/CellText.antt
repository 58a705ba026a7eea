-- The lines of the text on the columns and the ports that each cell of a tape has (this project's own definition).
use Rattle.std.specs.Prelude.{ℕ, ◌*◌, List, [], ◌∷◌, ◌++◌, codes, decimal, slice_index}
use Rattle.std.specs.List.{flat_map, range_with_len}
use Rattle.bn_table.specs.Rows.{Named}
use Rattle.bn_network.specs.Cells.{CellState, Plain, Head, cell_line, cell_line_count, state_of}
use Rattle.bn_reply.specs.Lines.{line}
use Rattle.bn_reply_relations.specs.RunText.{symbol_text}
use Rattle.bn_reply_boards.specs.LineNames.{cell_line_text}

-- a state of a cell of this tape
abbrev pub cell_state_text : Named → ℕ → CellState → List ℕ
cell_state_text t tape (Plain c) = codes "plain " ++ symbol_text t tape c
cell_state_text t tape (Head c) = codes "head " ++ symbol_text t tape c

abbrev pub cell_column_line : Named → ℕ → ℕ → ℕ → List ℕ
cell_column_line t tape z j =
    line (codes "column " ∷ decimal j ∷ codes " of tape " ∷ decimal tape ∷ codes " "
    ∷ cell_state_text t tape (state_of z j) ∷ [])

abbrev pub cell_line_line : ℕ → ℕ → ℕ → List ℕ
cell_line_line tape z i =
    line (codes "line " ∷ decimal i ∷ codes " of tape " ∷ decimal tape ∷ codes " " ∷ cell_line_text (cell_line z i)
    ∷ [])

-- the columns and the ports that each cell of this tape of z symbols has
abbrev pub cell_lines : Named → ℕ → ℕ → List ℕ
cell_lines t tape z =
    flat_map (cell_column_line t tape z) (range_with_len 0 (2 * z))
    ++ flat_map (cell_line_line tape z) (range_with_len 0 (cell_line_count z))

-- the lines on the cells of the three tapes, where the tapes have this many symbols
abbrev pub tape_lines : Named → List ℕ → List ℕ
tape_lines t zs =
    cell_lines t 1 (slice_index zs 0) ++ (cell_lines t 2 (slice_index zs 1) ++ cell_lines t 3 (slice_index zs 2))
