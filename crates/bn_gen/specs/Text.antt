-- The machine of k increments as a table: the names of its states, the letters of its symbols, and the table's text.
-- It is this project's own example.
use Rattle.std.specs.Prelude.{ℕ, ◌+◌, ◌*◌, ◌++◌, ◌∷◌, [], List, codes, take}
use Rattle.bn_csv.specs.Lines.{lines_of}
use Rattle.bn_table.specs.Rows.{Named, named_program, rows_of}
use Rattle.bn_gen.specs.Increments.{incrementer}

-- the names of the start state and of the states of four rounds, by number: R goes right to the end of the number, P
-- adds one and carries, L goes left over the rest
abbrev pub round_names : List (List ℕ)
round_names =
    codes "S"
    ∷ codes "R1" ∷ codes "P1" ∷ codes "L1"
    ∷ codes "R2" ∷ codes "P2" ∷ codes "L2"
    ∷ codes "R3" ∷ codes "P3" ∷ codes "L3"
    ∷ codes "R4" ∷ codes "P4" ∷ codes "L4"
    ∷ []

-- the names of all states: those of k rounds, and the final state's
abbrev pub increment_names : ℕ → List (List ℕ)
increment_names k = take (3 * k + 1) round_names ++ codes "F" ∷ []

-- the letters of the blank and the digits
abbrev pub increment_letters : List ℕ
increment_letters = codes "_01"

-- the table, and its text: a line for each quintuple
abbrev pub increments_table : ℕ → Named
increments_table k = named_program (incrementer k) (increment_names k) increment_letters

abbrev pub increments_text : ℕ → List ℕ
increments_text k = lines_of (rows_of (increments_table k))
