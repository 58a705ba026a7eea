-- The start of a board from each configuration that stands in its window stands for its network's.
use Rattle.std.specs.Prelude.{◌≡◌, ℕ, ◌+◌, ◌*◌, ◌<◌, pos, ◌-ℤ◌, List, [], ◌∷◌, ◌++◌, length, replicate, Some, slice_get}
use Rattle.std.specs.Prelude.{refl}
use Rattle.std.specs.Option.{option_map_or}
use Rattle.std.specs.Ordering.{int_eq}
use Rattle.std.proofs.Common.{zero, suc, arith, sym, ap, subst, ◌∙◌}
use Rattle.std.proofs.lemmas.List.{append_assoc, append-nil, length-append, length-replicate}
use Rattle.std.proofs.lemmas.List.FromFn.{length-map-range_with_len}
use Rattle.bn_element.specs.Tables.{Table}
use Rattle.bn_circuits.specs.Circuits.{Circuit}
use Rattle.bn_machine.specs.Outcome.{Limits}
use Rattle.bn_machine.specs.Tape.{Tape, cell}
use Rattle.bn_quad.specs.Quadruples.{Configuration, Quadruples}
use Rattle.bn_network.specs.Cells.{cell_table, state_number}
use Rattle.bn_network.specs.Controls.{ControlState, IsNumbering, symbol_count}
use Rattle.bn_network.specs.Networks.{IsNetwork, ShowsTape, ShowsTapes, cell_of, cells_in, first_cell}
use Rattle.bn_network_laws.proofs.FirstLemmas.{begin_first, in_front, behind}
use Rattle.bn_boards.specs.Boards.{StandsFor, board_start}
use Rattle.bn_boards.proofs.StartedLemmas.{bars-length, bars-rest}
use Rattle.bn_network.specs.Starts.{cells_by, start_from, FitsTape, FitsWindow}
use Rattle.bn_boards.proofs.StartingLemmas.{map_get, each_below, state_low}
use Rattle.bn_network_laws.proofs.PlaceLemmas.{some_lines as lines_some}

-- ---- lists of states

-- ---- a tape's cells

cells_length : (z left right : ℕ) (x : Tape) → length (cells_by z left right x) ≡ left + right + 1
cells_length z left right x = length-map-range_with_len (λ j. state_number z (cell_of x (pos j -ℤ pos left))) 0
    (left + right + 1)

cells_get : (z left right : ℕ) (x : Tape) (p : ℕ) → p < left + right + 1
    → slice_get (cells_by z left right x) p ≡ Some (state_number z (cell_of x (pos p -ℤ pos left)))
cells_get z left right x p low =
    map_get (λ j. state_number z (cell_of x (pos j -ℤ pos left))) 0 (left + right + 1) p p low (omega arith)

cells_below : (z left right : ℕ) (x : Tape) → FitsTape z left right x → (e q : ℕ)
    → slice_get (cells_by z left right x) e ≡ Some q → q < 2 * z
cells_below z left right x fits e q h =
    each_below (λ j. state_number z (cell_of x (pos j -ℤ pos left))) (2 * z)
    (λ j. state_low z (cell x (pos j -ℤ pos left)) (int_eq (pos j -ℤ pos left) x.head)
    (fits.symbols (pos j -ℤ pos left))) 0 (left + right + 1) e q h

-- ---- tables and states

AreStatesBelow : List Table → List ℕ → Type 0
AreStatesBelow ts qs = (e : ℕ) (t : Table) (q : ℕ) → slice_get ts e ≡ Some t → slice_get qs e ≡ Some q → q < t.states

module _ (m : Quadruples) (l : Limits) (k : Circuit) (c : Configuration ℕ) (fits : FitsWindow m l c) where
  abbrev a : List ℕ
  a = cells_by (symbol_count m 1) l.left l.right c.one

  abbrev b : List ℕ
  b = cells_by (symbol_count m 2) 0 l.steps c.two

  abbrev d : List ℕ
  d = cells_by (symbol_count m 3) 0 l.output c.three

  size_a : length a ≡ l.left + l.right + 1
  size_a = cells_length (symbol_count m 1) l.left l.right c.one

  size_b : length b ≡ 0 + l.steps + 1
  size_b = cells_length (symbol_count m 2) 0 l.steps c.two

  size_d : length d ≡ 0 + l.output + 1
  size_d = cells_length (symbol_count m 3) 0 l.output c.three

  shown : (states : List ℕ) (first z left right : ℕ) (x : Tape) → FitsTape z left right x
      → ((j : ℕ) → j < left + right + 1
      → slice_get states (first + j) ≡ Some (state_number z (cell_of x (pos j -ℤ pos left))))
      → ShowsTape states first z left right x
  shown states first z left right x fits cells =
      record { head = fits.head; shown = record { inside = fits.inside; symbols = fits.symbols; cells = cells } }

  two_at : (n j x y : ℕ) → x ≡ y + 1 → n ≡ 1 + (y + 1) + j → n ≡ suc x + j
  two_at n j x y size sum = omega arith

  pub shows : ShowsTapes m l (start_from m l c).states c
  shows =
      let whole = length-append (0 ∷ a) b in
      let long_a = size_a in
      let long_b = size_b in
      record {
        one = shown (start_from m l c).states (first_cell l 1) (symbol_count m 1) l.left l.right c.one fits.one
            (λ j lt. in_front ((0 ∷ a) ++ b) d (first_cell l 1 + j) _
            (in_front (0 ∷ a) b (first_cell l 1 + j) _
            (behind (0 ∷ []) a j (first_cell l 1 + j) _ (omega arith)
            (cells_get (symbol_count m 1) l.left l.right c.one j lt))));
        two = shown (start_from m l c).states (first_cell l 2) (symbol_count m 2) 0 l.steps c.two fits.two
            (λ j lt. in_front ((0 ∷ a) ++ b) d (first_cell l 2 + j) _
            (behind (0 ∷ a) b j (first_cell l 2 + j) _
            (two_at (first_cell l 2 + j) j (length a) (l.left + l.right) size_a refl)
            (cells_get (symbol_count m 2) 0 l.steps c.two j lt)));
        three = shown (start_from m l c).states (first_cell l 3) (symbol_count m 3) 0 l.output c.three fits.three
            (λ j lt. behind ((0 ∷ a) ++ b) d j (first_cell l 3 + j) _ (omega arith)
            (cells_get (symbol_count m 3) 0 l.output c.three j lt));
      }

  module _ (control : Table) (tables : k.tables ≡ control ∷ replicate (cells_in l 1) (cell_table (symbol_count m 1))
      ++ replicate (cells_in l 2) (cell_table (symbol_count m 2))
      ++ replicate (cells_in l 3) (cell_table (symbol_count m 3)))
      (some : 0 < control.states) (inputs : 0 < control.inputs) where
    abbrev ts : List Table
    ts = replicate (cells_in l 1) (cell_table (symbol_count m 1))

    abbrev us : List Table
    us = replicate (cells_in l 2) (cell_table (symbol_count m 2))

    abbrev vs : List Table
    vs = replicate (cells_in l 3) (cell_table (symbol_count m 3))

    none_below : AreStatesBelow [] []
    unfolding AreStatesBelow
    none_below e t q h g = absurd (cc)

    row_below : (n : ℕ) (u : Table) (rest : List Table) (qs more : List ℕ) → length qs ≡ n
        → ((e q : ℕ) → slice_get qs e ≡ Some q → q < u.states)
        → AreStatesBelow rest more → AreStatesBelow (replicate n u ++ rest) (qs ++ more)
    unfolding AreStatesBelow
    row_below zero u rest [] more count each below e t q h g = below e t q h g
    row_below zero u rest (p ∷ qs) more count each below e t q h g = absurd (omega arith)
    row_below (suc n) u rest [] more count each below e t q h g = absurd (omega arith)
    row_below (suc n) u rest (p ∷ qs) more count each below zero t q h g =
        let same : u ≡ t = cc in
        let here : p ≡ q = cc in
        let low = each zero p refl in
        subst (λ (v : Table). q < v.states) same (subst (λ x. x < u.states) here low)
    row_below (suc n) u rest (p ∷ qs) more count each below (suc e) t q h g =
        row_below n u rest qs more (omega arith) (λ i. each (suc i)) below e t q h g

    three_below : AreStatesBelow (ts ++ (us ++ (vs ++ []))) (a ++ (b ++ (d ++ [])))
    three_below =
        let long_b = size_b in
        let long_d = size_d in
        row_below (cells_in l 1) (cell_table (symbol_count m 1)) (us ++ (vs ++ [])) a (b ++ (d ++ [])) size_a
        (cells_below (symbol_count m 1) l.left l.right c.one fits.one)
        (row_below (cells_in l 2) (cell_table (symbol_count m 2)) (vs ++ []) b (d ++ []) (omega arith)
        (cells_below (symbol_count m 2) 0 l.steps c.two fits.two)
        (row_below (cells_in l 3) (cell_table (symbol_count m 3)) [] d [] (omega arith)
        (cells_below (symbol_count m 3) 0 l.output c.three fits.three) none_below))

    all_below : AreStatesBelow (control ∷ (ts ++ (us ++ (vs ++ [])))) (0 ∷ (a ++ (b ++ (d ++ []))))
    unfolding AreStatesBelow
    all_below zero t q h g =
        let same : control ≡ t = cc in
        let here : 0 ≡ q = cc in
        subst (λ (v : Table). q < v.states) same (subst (λ x. x < control.states) here some)
    all_below (suc e) t q h g = three_below e t q h g

    nested : {X : Type 0} (x : X) (xs ys zs : List X) → x ∷ xs ++ ys ++ zs ≡ x ∷ (xs ++ (ys ++ (zs ++ [])))
    nested x xs ys zs = ap (λ r. x ∷ r) (append_assoc xs ys zs ∙ ap (λ r. xs ++ (ys ++ r)) (sym (append-nil zs)))

    tables_nested : k.tables ≡ control ∷ (ts ++ (us ++ (vs ++ [])))
    tables_nested = tables ∙ nested control ts us vs

    states_nested : (start_from m l c).states ≡ 0 ∷ (a ++ (b ++ (d ++ [])))
    states_nested = nested 0 a b d

    below : (e : ℕ) (t : Table) (q : ℕ) → slice_get k.tables e ≡ Some t → slice_get (start_from m l c).states e ≡ Some q
        → q < t.states
    unfolding AreStatesBelow
    below e t q h g = all_below e t q (ap (λ (xs : List Table). slice_get xs e) (sym tables_nested) ∙ h)
        (ap (λ (xs : List ℕ). slice_get xs e) (sym states_nested) ∙ g)

    three_lengths : {X : Type 0} (x : X) (xs ys zs : List X)
        → length (x ∷ (xs ++ (ys ++ (zs ++ [])))) ≡ 1 + length xs + length ys + length zs
    three_lengths x xs ys zs =
        let one = length-append xs (ys ++ (zs ++ [])) in
        let two = length-append ys (zs ++ []) in
        let three = length-append zs [] in
        omega arith

    counts : length (start_from m l c).states ≡ length k.tables
    counts =
        let long_a = size_a in
        let long_b = size_b in
        let long_d = size_d in
        let left = ap (λ (xs : List ℕ). length xs) states_nested ∙ three_lengths 0 a b d in
        let right = ap (λ (xs : List Table). length xs) tables_nested ∙ three_lengths control ts us vs in
        let first = length-replicate (cells_in l 1) (cell_table (symbol_count m 1)) in
        let second = length-replicate (cells_in l 2) (cell_table (symbol_count m 2)) in
        let third = length-replicate (cells_in l 3) (cell_table (symbol_count m 3)) in
        omega arith

    stands : StandsFor k (start_from m l c) (board_start k.tables (start_from m l c))
    stands = record {
      count = counts;
      bars = bars-length k.tables (start_from m l c).states counts;
      rests = λ e t q has at_q. let low = below e t q has at_q in
          (low, bars-rest k.tables (start_from m l c).states e t q counts has at_q low);
      admissible =
          let at : slice_get k.tables 0 ≡ Some control = ap (λ (xs : List Table). slice_get xs 0) tables in
          subst (λ o. 0 < option_map_or (λ (t : Table). t.inputs) o 0) (sym at) inputs;
      place = refl;
    }

-- ---- any network

some_names : {X : Type 0} (xs : List X) (x : X) → slice_get xs 0 ≡ Some x → 0 < length xs
some_names [] x at = absurd (cc)
some_names (y ∷ xs) x at = omega arith

-- the board at the start of a configuration stands for the network at its start
pub start-stands : (m : Quadruples) (l : Limits) (names : List ControlState) (k : Circuit) (c : Configuration ℕ)
    → IsNumbering m names → IsNetwork m l names k → FitsWindow m l c
    → StandsFor k (start_from m l c) (board_start k.tables (start_from m l c))
start-stands m l names k c numbering net fits =
    let some = some_names names _ (begin_first m names numbering) in
    let lines = lines_some m.symbols 3 in
    let states = net.is_control.states in
    let inputs = net.is_control.inputs in
    stands m l k c fits net.control net.tables (omega arith) (omega arith)
