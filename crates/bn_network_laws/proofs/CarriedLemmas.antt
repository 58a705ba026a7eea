-- Each tape of the network is a row of cells.
use Rattle.std.specs.Prelude.{◌≡◌, ℕ, ◌+◌, ◌<◌, ◌≤◌, List, ◌++◌, replicate, Option, Some, None, slice_get, refl}
use Rattle.std.proofs.Common.{zero, suc, arith, sym, ap, subst, ◌∙◌, inl, inr, append_assoc}
use Rattle.std.proofs.lemmas.Bool.{cases_lt}
use Rattle.bn_element.specs.Tables.{Table}
use Rattle.bn_circuits.specs.Circuits.{Circuit, target, place_at, place_after}
use Rattle.bn_circuits.specs.declared.line.Line.{Line}
use Rattle.bn_circuits.specs.declared.place.Place.TheVariants.{Enter, Left}
use Rattle.bn_machine.specs.Outcome.{Limits}
use Rattle.bn_quad.specs.Quadruples.{Quadruples}
use Rattle.bn_network.specs.declared.cell_line.CellLine.{CellLine}
use Rattle.bn_network.specs.declared.cell_line.CellLine.TheVariants.{TakeRight, TakeLeft, Answer, DoneWrite, DoneRight}
use Rattle.bn_network.specs.declared.cell_line.CellLine.TheVariants.{DoneLeft}
use Rattle.bn_network.specs.Cells.{IsLineOf, cell_table, line_number}
use Rattle.bn_network.specs.Controls.{ControlState, Tape as to_tape, symbol_count, in_number}
use Rattle.bn_network.specs.Networks.{IsTape, first_cell, cells_in, IsNetWire, commands, replies, rightward, leftward}
use Rattle.bn_network.specs.Networks.{IsNetwork, module_tables, GoesLeft, IsReply}
use Rattle.bn_circuits.specs.Circuits.{line_at}
use Rattle.bn_network_laws.proofs.NumberLemmas.{right_apart, left_apart}
use Rattle.bn_network_laws.proofs.RowLemmas.{IsRow}

-- ---- where tapes lie

-- a later tape begins past an earlier one
later_tape : (l : Limits) (t u : ℕ) → 0 < t → t < u → first_cell l t + cells_in l t ≤ first_cell l u
later_tape l t zero some lt = absurd (omega arith)
later_tape l t (suc zero) some lt = absurd (omega arith)
later_tape l t (suc (suc u)) some lt =
    elim (cases_lt t (suc u)) [
      | inl before ↦ (let rest = later_tape l t (suc u) some before in omega arith)
      | inr last ↦ (let same : t ≡ suc u = omega arith in
          let begin = ap (first_cell l) same in
          let count = ap (cells_in l) same in
          omega arith)
    ]

-- the control comes before all cells
pub after_control : (l : Limits) (t : ℕ) → 0 < t → 0 < first_cell l t
after_control l zero some = absurd (omega arith)
after_control l (suc zero) some = omega arith
after_control l (suc (suc t)) some = let rest = after_control l (suc t) (omega arith) in omega arith

-- a cell is one tape's alone
pub one_tape : (l : Limits) (t u p q : ℕ) → 0 < t → 0 < u → p < cells_in l t → q < cells_in l u
    → first_cell l t + p ≡ first_cell l u + q → t ≡ u
one_tape l t u p q t_some u_some p_in q_in same =
    elim (cases_lt t u) [
      | inl before ↦ (let h = later_tape l t u t_some before in absurd (omega arith))
      | inr rest ↦ (elim (cases_lt u t) [
        | inl after ↦ (let h = later_tape l u t u_some after in absurd (omega arith))
        | inr last ↦ omega arith
      ])
    ]

-- a tape has a cell
pub some_cells : (l : Limits) (t : ℕ) → IsTape t → 0 < cells_in l t
some_cells l zero tape = let low = tape.low in absurd (omega arith)
some_cells l (suc zero) tape = omega arith
some_cells l (suc (suc zero)) tape = omega arith
some_cells l (suc (suc (suc zero))) tape = omega arith
some_cells l (suc (suc (suc (suc t)))) tape = let high = tape.high in absurd (omega arith)

-- ---- tables

module _ {X : Type 0} where
  -- an element of the copies in front
  front : (n : ℕ) (x : X) (ys : List X) (p : ℕ) → p < n → slice_get (replicate n x ++ ys) p ≡ Some x
  front zero x ys p lt = absurd (omega arith)
  front (suc n) x ys zero lt = refl
  front (suc n) x ys (suc p) lt = front n x ys p (omega arith)

  -- an element behind the copies
  back : (n : ℕ) (x : X) (ys : List X) (p q : ℕ) → q ≡ n + p → slice_get (replicate n x ++ ys) q ≡ slice_get ys p
  back zero x ys p q sum = let same : q ≡ p = omega arith in ap (slice_get ys) same
  back (suc n) x ys p zero sum = absurd (omega arith)
  back (suc n) x ys p (suc q) sum = back n x ys p q (omega arith)

  -- an element of the copies alone
  whole : (n : ℕ) (x : X) (p : ℕ) → p < n → slice_get (replicate n x) p ≡ Some x
  whole zero x p lt = absurd (omega arith)
  whole (suc n) x zero lt = refl
  whole (suc n) x (suc p) lt = whole n x p (omega arith)

-- the module of a tape's cell is a cell for the tape's symbols
pub cell_module : (m : Quadruples) (l : Limits) (control : Table) (t p : ℕ) → IsTape t → p < cells_in l t
    → slice_get (module_tables m l control) (first_cell l t + p) ≡ Some (cell_table (symbol_count m t))
cell_module m l control zero p tape lt = absurd (omega arith)
cell_module m l control (suc zero) p tape lt =
    let one = cells_in l 1 in
    let at : 1 + p ≡ suc p = omega arith in
    subst (λ x. slice_get (module_tables m l control) x ≡ Some (cell_table (symbol_count m 1))) (sym at)
    (rw append_assoc (front one (cell_table (symbol_count m 1))
    (replicate (cells_in l 2) (cell_table (symbol_count m 2))
    ++ replicate (cells_in l 3) (cell_table (symbol_count m 3))) p lt))
cell_module m l control (suc (suc zero)) p tape lt =
    let at : first_cell l 2 + p ≡ suc (cells_in l 1 + p) = omega arith in
    subst (λ x. slice_get (module_tables m l control) x ≡ Some (cell_table (symbol_count m 2))) (sym at)
    (rw append_assoc (back (cells_in l 1) (cell_table (symbol_count m 1))
    (replicate (cells_in l 2) (cell_table (symbol_count m 2))
    ++ replicate (cells_in l 3) (cell_table (symbol_count m 3))) p (cells_in l 1 + p) refl
    ∙ front (cells_in l 2) (cell_table (symbol_count m 2)) (replicate (cells_in l 3) (cell_table (symbol_count m 3))) p
    lt))
cell_module m l control (suc (suc (suc zero))) p tape lt =
    let at : first_cell l 3 + p ≡ suc (cells_in l 1 + (cells_in l 2 + p)) = omega arith in
    subst (λ x. slice_get (module_tables m l control) x ≡ Some (cell_table (symbol_count m 3))) (sym at)
    (rw append_assoc (back (cells_in l 1) (cell_table (symbol_count m 1))
    (replicate (cells_in l 2) (cell_table (symbol_count m 2))
    ++ replicate (cells_in l 3) (cell_table (symbol_count m 3))) (cells_in l 2 + p)
    (cells_in l 1 + (cells_in l 2 + p)) refl
    ∙ back (cells_in l 2) (cell_table (symbol_count m 2)) (replicate (cells_in l 3) (cell_table (symbol_count m 3))) p
    (cells_in l 2 + p) refl
    ∙ whole (cells_in l 3) (cell_table (symbol_count m 3)) p lt))
cell_module m l control (suc (suc (suc (suc t)))) p tape lt = absurd (omega arith)

-- ---- wires

-- no output line has a wire where none is one
unwired : (o : Option Line) (P : Line → Type 0) → ((to : Line) → o ≡ Some to → P to) → ((to : Line) → P to → ⊥)
    → o ≡ None
unwired None P gives never = refl
unwired (Some to) P gives never = absurd (never to (gives to refl))

module _ (m : Quadruples) (l : Limits) (names : List ControlState) (k : Circuit) (network : IsNetwork m l names k) where
  -- a wire leads where it says
  leads : (from to : Line) → IsNetWire m l from to → place_after k.wires from ≡ Enter to.element to.line
  leads from to wire = ap (λ o. place_at o from) ((network.wires from to).1 wire)

  -- a line that no wire leaves is loose
  loose : (from : Line) → ((to : Line) → IsNetWire m l from to → ⊥)
      → place_after k.wires from ≡ Left from.element from.line
  loose from never = ap (λ o. place_at o from) (unwired (target k.wires from) (IsNetWire m l from)
      (λ to is. (network.wires from to).0 is) never)

  -- two names of one cell's line
  same_cell : (t u p q i j : ℕ) → IsTape t → IsTape u → p < cells_in l t → q < cells_in l u
      → line_at (first_cell l t + p) i ≡ line_at (first_cell l u + q) j
      → (t ≡ u) × (p ≡ q) × (i ≡ j)
  same_cell t u p q i j t_is u_is p_in q_in same =
      let element : first_cell l t + p ≡ first_cell l u + q = ap (λ (x : Line). x.element) same in
      let line : i ≡ j = ap (λ (x : Line). x.line) same in
      let tape = one_tape l t u p q t_is.low u_is.low p_in q_in element in
      let begin = ap (first_cell l) tape in
      (tape, omega arith, line)

  module _ (t : ℕ) (tape : IsTape t) where
    -- the last cell's line to the right is loose
    no_right : (p : ℕ) (to : Line) → suc p ≡ cells_in l t → IsNetWire m l
        (line_at (first_cell l t + p) (line_number (symbol_count m t) TakeRight)) to → ⊥
    no_right p to last (commands u c is command line from into) =
        let element : first_cell l t + p ≡ 0 = ap (λ (x : Line). x.element) from in
        let some = after_control l t tape.low in
        omega arith
    no_right p to last (replies u c is reply line from into) =
        let start : first_cell l u ≡ first_cell l u + 0 = omega arith in
        let same = same_cell t u p 0 _ _ tape is (omega arith) (some_cells l u is)
        (from ∙ ap (λ x. line_at x (line_number (symbol_count m u) c)) start) in
        let number : line_number (symbol_count m t) TakeRight ≡ line_number (symbol_count m t) c =
        same.2 ∙ ap (λ x. line_number (symbol_count m x) c) (sym same.0) in
        right_apart (symbol_count m t) c (goes_left c reply) number
      where
        -- a reply goes left
        goes_left : (c : CellLine) → IsReply c → GoesLeft c
        goes_left (Answer u) h = h
        goes_left DoneWrite h = h
        goes_left DoneRight h = h
        goes_left DoneLeft h = h
        goes_left _ h = absurd h
    no_right p to last (rightward u q c is more right line from into) =
        let same = same_cell t u p q _ _ tape is (omega arith) (omega arith) from in
        let count = ap (cells_in l) same.0 in
        let place = same.1 in
        omega arith
    no_right p to last (leftward u q c is more left line from into) =
        let same = same_cell t u p (q + 1) _ _ tape is (omega arith) more from in
        let number : line_number (symbol_count m t) TakeRight ≡ line_number (symbol_count m t) c =
        same.2 ∙ ap (λ x. line_number (symbol_count m x) c) (sym same.0) in
        right_apart (symbol_count m t) c left number

    -- the first cell's line to the left is loose
    no_left : (to : Line) → IsNetWire m l (line_at (first_cell l t + 0) (line_number (symbol_count m t) TakeLeft)) to
        → ⊥
    no_left to (commands u c is command line from into) =
        let element : first_cell l t + 0 ≡ 0 = ap (λ (x : Line). x.element) from in
        let some = after_control l t tape.low in
        omega arith
    no_left to (replies u c is reply line from into) =
        let start : first_cell l u ≡ first_cell l u + 0 = omega arith in
        let same = same_cell t u 0 0 _ _ tape is (some_cells l t tape) (some_cells l u is)
        (from ∙ ap (λ x. line_at x (line_number (symbol_count m u) c)) start) in
        let z = symbol_count m u in
        let number : line_number z TakeLeft ≡ line_number z c = ap (λ x. line_number (symbol_count m x) TakeLeft)
        (sym same.0) ∙ same.2 in
        answers_apart z c reply line number
      where
        -- the line that takes the head to the left is none of a reply
        answers_apart : (z : ℕ) (c : CellLine) → IsReply c → IsLineOf z c → line_number z TakeLeft ≡ line_number z c → ⊥
        answers_apart z (Answer u) h line e = omega arith
        answers_apart z DoneWrite h line e = omega arith
        answers_apart z DoneRight h line e = omega arith
        answers_apart z DoneLeft h line e = omega arith
        answers_apart z _ h line e = h
    no_left to (rightward u q c is more right line from into) =
        let same = same_cell t u 0 q _ _ tape is (some_cells l t tape) (omega arith) from in
        let z = symbol_count m u in
        let number : line_number z TakeLeft ≡ line_number z c = ap (λ x. line_number (symbol_count m x) TakeLeft)
        (sym same.0) ∙ same.2 in
        left_apart z c right line number
    no_left to (leftward u q c is more left line from into) =
        let same = same_cell t u 0 (q + 1) _ _ tape is (some_cells l t tape) more from in
        let place = same.1 in
        omega arith

    -- the tape's cells are a row
    pub tape_row : IsRow k (first_cell l t) (cells_in l t) (symbol_count m t) (λ c. in_number m (to_tape t c))
    tape_row = record {
      cells = λ p lt. subst (λ ts. slice_get ts (first_cell l t + p) ≡ Some (cell_table (symbol_count m t)))
          (sym network.tables) (cell_module m l network.control t p tape lt);
      right = λ p c lt right line. (let next : p + 1 ≡ suc p = omega arith in
          leads (line_at (first_cell l t + p) (line_number (symbol_count m t) c))
          (line_at (first_cell l t + suc p) (line_number (symbol_count m t) c))
          (rightward t p c tape (omega arith) right line refl (ap
          (λ x. line_at (first_cell l t + x) (line_number (symbol_count m t) c)) (sym next))));
      left = λ p c lt left line. (let next : p + 1 ≡ suc p = omega arith in
          leads (line_at (first_cell l t + suc p) (line_number (symbol_count m t) c))
          (line_at (first_cell l t + p) (line_number (symbol_count m t) c))
          (leftward t p c tape (omega arith) left line (ap (λ x. line_at (first_cell l t + x)
          (line_number (symbol_count m t) c)) (sym next)) refl));
      replies = λ c reply line. (let start : first_cell l t + 0 ≡ first_cell l t = omega arith in
          leads (line_at (first_cell l t + 0) (line_number (symbol_count m t) c))
          (line_at 0 (in_number m (to_tape t c))) (replies t c tape reply line
          (ap (λ x. line_at x (line_number (symbol_count m t) c)) start) refl));
      no_left = loose (line_at (first_cell l t + 0) (line_number (symbol_count m t) TakeLeft)) no_left;
      no_right = λ p last. loose (line_at (first_cell l t + p) (line_number (symbol_count m t) TakeRight))
          (λ to. no_right p to last);
      apart = after_control l t tape.low;
    }
