-- How many moves a cell has.
use Rattle.std.proofs.Common.{◌≡◌, inl, inr, ℕ, zero, suc, ◌+◌, ◌-◌, ◌*◌, ◌<◌, ◌≤◌, length, refl, ap, sym, ◌∙◌, arith}
use Rattle.std.proofs.Common.{length-append}
use Rattle.std.proofs.lemmas.Bool.{lt-ltb, cases_lt}
use Rattle.std.proofs.lemmas.Bool.Decides.{nat_tests}
use Rattle.bn_network.specs.declared.cell_line.CellLine.{CellLine}
use Rattle.bn_network.specs.declared.cell_line.CellLine.TheVariants.{Read, Write, ShiftRight, ShiftLeft, TakeRight}
use Rattle.bn_network.specs.declared.cell_line.CellLine.TheVariants.{Answer, DoneWrite, DoneRight, DoneLeft, TakeLeft}
use Rattle.bn_network.specs.Cells.{Plain, Head, cell_go, cell_table, by_numbers, line_number, cell_line}
use Rattle.bn_network.specs.Cells.{cell_line_count, state_of, IsLineOf}
use Rattle.bn_cell.specs.Reversible.{numbers, valid_line}
use Rattle.bn_cell.specs.Rows.{row, rows}
use Rattle.bn_cell.proofs.RowLemmas.{row_length, count, count_all, count_none, one_if_some}

-- without the head each line has a move
plain_moves : (z t : ℕ) (l : CellLine) → one_if_some (cell_table z) (by_numbers z (cell_go (Plain t) l)) ≡ 1
plain_moves z t Read = refl
plain_moves z t (Write u) = refl
plain_moves z t ShiftRight = refl
plain_moves z t ShiftLeft = refl
plain_moves z t TakeRight = refl
plain_moves z t (Answer u) = refl
plain_moves z t DoneWrite = refl
plain_moves z t DoneRight = refl
plain_moves z t DoneLeft = refl
plain_moves z t TakeLeft = refl

module _ (z : ℕ) where
  -- the moves of a pair in range
  in_range : (q i : ℕ) → q < 2 * z → i < cell_line_count z → (cell_table z).go q i
      ≡ by_numbers z (cell_go (state_of z q) (cell_line z i))
  in_range q i state line = rw (lt-ltb q (2 * z) state, lt-ltb i (cell_line_count z) line) refl

  plain_state : (q : ℕ) → q < z → state_of z q ≡ Plain q
  plain_state q low = rw (lt-ltb q z low) refl

  head_state : (t : ℕ) → state_of z (z + t) ≡ Head t
  head_state t = grind (arith, nat_tests)

  plain_some : (q i : ℕ) → q < z → i < cell_line_count z → one_if_some (cell_table z) ((cell_table z).go q i) ≡ 1
  plain_some q i low line = rw (in_range q i (omega arith) line, plain_state q low) (plain_moves z q (cell_line z i))

  -- a state without the head has a move by each line
  plain_count : (q : ℕ) → q < z → length (row (cell_table z) q (cell_line_count z)) ≡ 2 * z + 8
  plain_count q low = let all = count_all (cell_table z) q 0 (cell_line_count z) (cell_line_count z) (omega arith)
      (λ i _ line. plain_some q i low line) in omega (arith, row_length (cell_table z) q (cell_line_count z))

  -- how many moves a pair with the head has
  head_by : (t i : ℕ) (l : CellLine) (n : ℕ) → t < z → i < cell_line_count z → cell_line z i ≡ l
      → one_if_some (cell_table z) (by_numbers z (cell_go (Head t) l)) ≡ n
      → one_if_some (cell_table z) ((cell_table z).go (z + t) i) ≡ n
  head_by t i l n low line e f = rw (in_range (z + t) i (omega arith) line, head_state t, e) f

  line_write : (u i : ℕ) → i ≡ 1 + u → u < z → cell_line z i ≡ Write u
  line_write u i e low = grind (arith, nat_tests)

  line_right : (i : ℕ) → i ≡ z + 1 → cell_line z i ≡ ShiftRight
  line_right i e = grind (arith, nat_tests)

  line_left : (i : ℕ) → i ≡ z + 2 → cell_line z i ≡ ShiftLeft
  line_left i e = grind (arith, nat_tests)

  -- by the lines from TakeRight on a cell with the head never moves
  idle : (t i : ℕ) (l : CellLine) → z + 3 ≤ i → line_number z l ≡ i → IsLineOf z l
      → one_if_some (cell_table z) (by_numbers z (cell_go (Head t) l)) ≡ 0
  idle t i TakeRight high e line = refl
  idle t i TakeLeft high e line = refl
  idle t i (Answer u) high e line = refl
  idle t i DoneWrite high e line = refl
  idle t i DoneRight high e line = refl
  idle t i DoneLeft high e line = refl
  idle t i Read high e line = absurd (omega arith)
  idle t i (Write u) high e line = absurd (omega arith)
  idle t i ShiftRight high e line = absurd (omega arith)
  idle t i ShiftLeft high e line = absurd (omega arith)

  head_idle : (t i : ℕ) → t < z → z + 3 ≤ i → i < cell_line_count z
      → one_if_some (cell_table z) ((cell_table z).go (z + t) i) ≡ 0
  head_idle t i low high line = head_by t i (cell_line z i) 0 low line refl
      (idle t i (cell_line z i) high (numbers z i line) (valid_line z i line))

  head_read : (t i : ℕ) → t < z → i < 1 → one_if_some (cell_table z) ((cell_table z).go (z + t) i) ≡ 1
  head_read t i low first = let e : i ≡ 0 = omega arith in head_by t i Read 1 low (omega arith) (rw e refl) refl

  head_shift : (t i : ℕ) → t < z → z + 1 ≤ i → i < z + 3 → one_if_some (cell_table z) ((cell_table z).go (z + t) i) ≡ 1
  head_shift t i low high few = elim (cases_lt i (z + 2)) [
    | inl before ↦ head_by t i ShiftRight 1 low (omega arith) (line_right i (omega arith)) refl
    | inr not ↦ head_by t i ShiftLeft 1 low (omega arith) (line_left i (omega arith)) refl
  ]

  write_blank : (i : ℕ) → 0 < z → 1 ≤ i → i < z + 1 → one_if_some (cell_table z) ((cell_table z).go (z + 0) i) ≡ 1
  write_blank i some first few = head_by 0 i (Write (i - 1)) 1 some (omega arith)
      (line_write (i - 1) i (omega arith) (omega arith)) refl

  write_full : (t i : ℕ) → suc t < z → 1 ≤ i → i < z + 1 → one_if_some (cell_table z) ((cell_table z).go (z + suc t) i)
      ≡ 0
  write_full t i low first few = head_by (suc t) i (Write (i - 1)) 0 low (omega arith)
      (line_write (i - 1) i (omega arith) (omega arith)) refl

  -- a state with the head reads and shifts
  head_count : (t written : ℕ) → t < z → count (cell_table z) (z + t) (z + 1) ≡ 1 + written
      → length (row (cell_table z) (z + t) (cell_line_count z)) ≡ 3 + written
  head_count t written low before =
      let shifts = count_all (cell_table z) (z + t) (z + 1) 2 (z + 3) (omega arith)
      (λ i high few. head_shift t i low high few) in
      let rest = count_none (cell_table z) (z + t) (z + 3) (z + 5) (cell_line_count z) (omega arith)
      (λ i high line. head_idle t i low high line) in
      omega (arith, row_length (cell_table z) (z + t) (cell_line_count z))

  one_read : (t : ℕ) → t < z → count (cell_table z) (z + t) 1 ≡ 1
  one_read t low = let one = count_all (cell_table z) (z + t) 0 1 1 (omega arith) (λ i _ few. head_read t i low few) in
      omega arith

  -- with the blank it is also written
  blank_count : 0 < z → length (row (cell_table z) (z + 0) (cell_line_count z)) ≡ 3 + z
  blank_count some =
      let first = one_read 0 some in
      let writes = count_all (cell_table z) (z + 0) 1 z (z + 1) (omega arith)
      (λ i high few. write_blank i some high few) in
      head_count 0 z some (omega arith)

  full_count : (t : ℕ) → suc t < z → length (row (cell_table z) (z + suc t) (cell_line_count z)) ≡ 3
  full_count t low =
      let first = one_read (suc t) low in
      let writes = count_none (cell_table z) (z + suc t) 1 z (z + 1) (omega arith)
      (λ i high few. write_full t i low high few) in
      let all = head_count (suc t) 0 low (omega arith) in omega arith

  -- the states without the head
  plain_rows : (n : ℕ) → n ≤ z → length (rows (cell_table z) n) ≡ n * (2 * z + 8)
  plain_rows zero low = omega arith
  plain_rows (suc n) low =
      let rest = plain_rows n (omega arith) in let more = plain_count n (omega arith) in
      omega (arith, length-append (rows (cell_table z) n) (row (cell_table z) n (cell_line_count z)))

  -- and those with it
  head_rows : (n : ℕ) → n < z → length (rows (cell_table z) (suc (z + n))) ≡ z * (2 * z + 8) + (3 + z) + 3 * n
  head_rows zero low =
      let rest = plain_rows z (omega arith) in let more = blank_count low in let e : z + 0 ≡ z = omega arith in
      rw e (let more' = rw e at more in omega (
        arith,
        length-append (rows (cell_table z) z) (row (cell_table z) z (cell_line_count z)),
      ))
  head_rows (suc n) low =
      let rest = head_rows n (omega arith) in let more = full_count n low in let e : z + suc n ≡ suc (z + n) =
      omega arith in
      rw e (let more' = rw e at more in omega (
        arith,
        length-append (rows (cell_table z) (suc (z + n))) (row (cell_table z) (suc (z + n)) (cell_line_count z)),
      ))

  -- so a cell has so many moves
  pub moves_counted : 0 < z → length (rows (cell_table z) (2 * z)) ≡ z * (2 * z + 8) + 4 * z
  moves_counted some =
      let all = head_rows (z - 1) (omega arith) in
      let e : suc (z + (z - 1)) ≡ 2 * z = omega arith in
      ap (λ n. length (rows (cell_table z) n)) (sym e) ∙ all ∙ omega arith
