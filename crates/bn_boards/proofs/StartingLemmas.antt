-- A board at its start stands for its network's start.
use Rattle.std.specs.Prelude.{◌≡◌, ℕ, ◌+◌, ◌*◌, ◌<◌, ◌≤◌, ℤ, pos, negsuc, ◌-ℤ◌, Bool, true, false, List, [], ◌∷◌, ◌++◌}
use Rattle.std.specs.Prelude.{length, All, map, replicate, Option, Some, slice_get, if◌then◌else◌, refl}
use Rattle.std.specs.List.{range_with_len}
use Rattle.std.specs.Option.{option_map_or}
use Rattle.std.specs.Ordering.{int_eq}
use Rattle.std.proofs.Common.{zero, suc, arith, sym, ap, subst, ◌∙◌, inl, inr}
use Rattle.std.proofs.lemmas.Bool.{cases_lt}
use Rattle.std.proofs.lemmas.List.{append_assoc, append-nil, length-append, length-replicate, get_or_past}
use Rattle.std.proofs.lemmas.List.FromFn.{length-map-range_with_len}
use Rattle.std.proofs.lemmas.Bool.Decides.{Decides-int_eq}
use Rattle.std.proofs.lemmas.Int.{ints}
use Rattle.std.proofs.lemmas.Option.{same_Some}
use Rattle.bn_element.specs.Tables.{Table}
use Rattle.bn_circuits.specs.Circuits.{Circuit}
use Rattle.bn_circuits.specs.declared.place.Place.TheVariants.{Enter}
use Rattle.bn_machine.specs.Tape.{cell, word_tape, letter_at}
use Rattle.bn_machine.proofs.TapeLemmas.{cell-word}
use Rattle.bn_machine.specs.Outcome.{Limits}
use Rattle.bn_quad.specs.Quadruples.{Rule, Quadruples}
use Rattle.bn_circuits.specs.Situations.{Situation}
use Rattle.bn_network.specs.Cells.{Plain, Head, cell_table, state_number}
use Rattle.bn_network.specs.Controls.{ControlState, symbol_count}
use Rattle.bn_network.specs.Networks.{IsNetwork, IsTape, cells_in, first_cell, left_of, cell_of, start_cells}
use Rattle.bn_network.specs.Networks.{network_start}
use Rattle.bn_network.specs.Moments.{HasHeads}
use Rattle.bn_boards.specs.Boards.{StandsFor, board_start}
use Rattle.bn_boards.proofs.StartedLemmas.{bars-length, bars-rest, get_left, get_right}
use Rattle.bn_boards.proofs.TabledLemmas.{machine, tables_in, tables_are, has_control}

-- each state of a list is below that of its table
abbrev AreBelow : List Table → List ℕ → Type 0
AreBelow ts qs = (e : ℕ) (t : Table) (q : ℕ) → slice_get ts e ≡ Some t → slice_get qs e ≡ Some q → q < t.states

-- no tables
none_below : AreBelow [] []
none_below e t q h k = absurd (cc)

-- so many equal tables, and others behind them
row_below : (c : ℕ) (u : Table) (rest : List Table) (qs more : List ℕ) → length qs ≡ c
    → ((e q : ℕ) → slice_get qs e ≡ Some q → q < u.states)
    → AreBelow rest more → AreBelow (replicate c u ++ rest) (qs ++ more)
row_below zero u rest [] more count each below e t q h k = below e t q h k
row_below zero u rest (p ∷ qs) more count each below e t q h k = absurd (omega arith)
row_below (suc c) u rest [] more count each below e t q h k = absurd (omega arith)
row_below (suc c) u rest (p ∷ qs) more count each below zero t q h k =
    let same : u ≡ t = cc in
    let here : p ≡ q = cc in
    let low = each zero p refl in
    subst (λ (v : Table). q < v.states) same (subst (λ x. x < u.states) here low)
row_below (suc c) u rest (p ∷ qs) more count each below (suc e) t q h k =
    row_below c u rest qs more (omega arith) (λ i. each (suc i)) below e t q h k

-- the states of a tape's cells
pub each_below : (f : ℕ → ℕ) (k : ℕ) → ((j : ℕ) → f j < k) → (a n e q : ℕ)
    → slice_get (map f (range_with_len a n)) e ≡ Some q → q < k
each_below f k low a zero e q h = absurd (cc)
each_below f k low a (suc n) zero q h = let same : f a ≡ q = cc in subst (λ x. x < k) same (low a)
each_below f k low a (suc n) (suc e) q h = each_below f k low (a + 1) n e q h

letter_low : (z : ℕ) (word : List ℕ) → 0 < z → All (λ s. s < z) word → (p : ℤ) → letter_at word p < z
letter_low z word some all (pos zero) = some
letter_low z word some all (pos (suc k)) = elim (cases_lt k (length word))
    [ inl low ↦ all k 0 low | inr high ↦ (let none = get_or_past word k 0 high in subst (λ v. v < z) (sym none) some) ]
letter_low z word some all (negsuc k) = some

-- a cell's state is one of its table's
pub state_low : (z s : ℕ) (b : Bool) → s < z → state_number z (if b then Head s else Plain s) < 2 * z
state_low z s true low = omega arith
state_low z s false low = omega arith

-- at the start too
start_below : (z left right : ℕ) (word : List ℕ) → 0 < z → All (λ s. s < z) word → (e q : ℕ)
    → slice_get (start_cells z left word right) e ≡ Some q
    → q < 2 * z
start_below z left right word some all e q h =
    each_below (λ j. state_number z (cell_of (word_tape word) (pos j -ℤ pos left))) (2 * z)
    (λ j. state_low z (cell (word_tape word) (pos j -ℤ pos left)) (int_eq (pos j -ℤ pos left) (word_tape word).head)
    (subst (λ v. v < z) (sym (cell-word word (pos j -ℤ pos left)))
    (letter_low z word some all (pos j -ℤ pos left)))) 0 (left + right + 1) e q h

-- the state of one of a tape's cells
pub map_get : (f : ℕ → ℕ) (a n i e : ℕ) → i < n → e ≡ a + i → slice_get (map f (range_with_len a n)) i ≡ Some (f e)
map_get f a zero i e low same = absurd (omega arith)
map_get f a (suc n) zero e low same = let is : a ≡ e = omega arith in ap (λ v. Some (f v)) is
map_get f a (suc n) (suc i) e low same = map_get f (a + 1) n i e (omega arith) (omega arith)

-- at the start
start_get : (z left right : ℕ) (word : List ℕ) (p : ℕ) → p < left + right + 1
    → slice_get (start_cells z left word right) p ≡ Some (state_number z (cell_of (word_tape word) (pos p -ℤ pos left)))
start_get z left right word p low = map_get (λ j. state_number z (cell_of (word_tape word) (pos j -ℤ pos left))) 0
    (left + right + 1) p p low (omega arith)

-- a cell whose state has a number from the heads on has the head
pub has_head : (z s : ℕ) (b : Bool) → s < z → z ≤ state_number z (if b then Head s else Plain s) → b ≡ true
has_head z s true low high = refl
has_head z s false low high = absurd (omega arith)

-- the empty word
pub no_letters : (z : ℕ) → All (λ s. s < z) []
no_letters z k d low = absurd (omega arith)

-- a tape's cells at the start
pub start_length : (z left right : ℕ) (word : List ℕ) → length (start_cells z left word right) ≡ left + right + 1
start_length z left right word = length-map-range_with_len (λ j. state_number z
    (cell_of (word_tape word) (pos j -ℤ pos left))) 0 (left + right + 1)

module _ (rules : List (Rule ℕ)) (states x y z : ℕ) (l : Limits) (names : List ControlState) (n : Circuit)
    (firsts awaited : List (Option (ℕ × ℕ))) where
  -- the machine, by its parts
  abbrev m : Quadruples
  m = machine rules states x y z l names n firsts awaited

  module _ (network : IsNetwork m l names n) (word : List ℕ) (some : 0 < length names) (first : 0 < x) (second : 0 < y)
      (third : 0 < z) (letters_low : All (λ s. s < x) word) where
    -- the network's start
    abbrev start : Situation
    start = network_start m l word

    -- its states, tape after tape
    abbrev nested : List ℕ
    nested = 0 ∷ (start_cells x l.left word l.right ++ (start_cells y 0 [] l.steps
        ++ (start_cells z 0 [] l.output ++ [])))

    start_nested : start.states ≡ nested
    start_nested =
        let one = start_cells x l.left word l.right in
        let two = start_cells y 0 [] l.steps in
        let three = start_cells z 0 [] l.output in
        let h : one ++ two ++ three ≡ one ++ (two ++ (three ++ [])) =
        append_assoc one two three ∙ ap (λ r. one ++ (two ++ r)) (sym (append-nil three)) in
        ap (λ r. 0 ∷ r) h

    -- each state is one of its module's
    all_below : AreBelow (tables_in rules states x y z l names n firsts awaited network.control) nested
    all_below zero t q h k =
        let same : network.control ≡ t = cc in
        let here : 0 ≡ q = cc in
        let count = network.is_control.states in
        subst (λ (v : Table). q < v.states) same (omega arith)
    all_below (suc e) t q h k =
        row_below (cells_in l 1) (cell_table x) _ (start_cells x l.left word l.right) _
        (start_length x l.left l.right word) (start_below x l.left l.right word first letters_low)
        (row_below (cells_in l 2) (cell_table y) _ (start_cells y 0 [] l.steps) _
        (let c = start_length y 0 l.steps [] in omega arith) (start_below y 0 l.steps [] second (no_letters y))
        (row_below (cells_in l 3) (cell_table z) [] (start_cells z 0 [] l.output) []
        (let c = start_length z 0 l.output [] in omega arith) (start_below z 0 l.output [] third (no_letters z))
        none_below)) e t q h k

    -- the length of three lists
    three_lengths : {X : Type 0} (a b c : List X) → length (a ++ (b ++ (c ++ []))) ≡ length a + length b + length c
    three_lengths a b c =
        let one = length-append a (b ++ (c ++ [])) in
        let two = length-append b (c ++ []) in
        let three = length-append c [] in
        omega arith

    -- there is a state for each module
    counts : length start.states ≡ length n.tables
    counts =
        let one = start_length x l.left l.right word in
        let two = start_length y 0 l.steps [] in
        let three = start_length z 0 l.output [] in
        let left = three_lengths (start_cells x l.left word l.right) (start_cells y 0 [] l.steps)
        (start_cells z 0 [] l.output) in
        let right = three_lengths (replicate (cells_in l 1) (cell_table x)) (replicate (cells_in l 2) (cell_table y))
        (replicate (cells_in l 3) (cell_table z)) in
        let first = length-replicate (cells_in l 1) (cell_table x) in
        let second = length-replicate (cells_in l 2) (cell_table y) in
        let third = length-replicate (cells_in l 3) (cell_table z) in
        let tables : length n.tables ≡ length (tables_in rules states x y z l names n firsts awaited network.control) =
        ap length (tables_are rules states x y z l names n firsts awaited network) in
        let starts : length start.states ≡ length nested = ap length start_nested in
        omega arith

    -- the board stands for the start
    pub starts : StandsFor n start (board_start n.tables start)
    starts = record {
      count = counts;
      bars = bars-length n.tables start.states counts;
      rests = λ e t q has at_q.
          let low = all_below e t q (subst (λ ts. slice_get ts e ≡ Some t)
          (tables_are rules states x y z l names n firsts awaited network) has)
          (subst (λ qs. slice_get qs e ≡ Some q) start_nested at_q) in
          (low, bars-rest n.tables start.states e t q counts has at_q low);
      admissible =
          let control = has_control rules states x y z l names n firsts awaited network in
          let inputs = network.is_control.inputs in
          subst (λ o. 0 < option_map_or (λ (t : Table). t.inputs) o 0) (sym control) (omega arith);
      place = refl;
    }

    -- ---- the heads at the start

    -- each tape's word
    abbrev word_on : ℕ → List ℕ
    word_on zero = []
    word_on (suc zero) = word
    word_on (suc (suc t)) = []

    -- the state of each cell
    start_at : (t p : ℕ) → 0 < t → t ≤ 3 → p < cells_in l t
        → slice_get nested (first_cell l t + p) ≡ Some (state_number (symbol_count m t)
        (cell_of (word_tape (word_on t)) (pos p -ℤ pos (left_of l t))))
    start_at zero p low high within = absurd (omega arith)
    start_at (suc zero) p low high within =
        let one = start_cells x l.left word l.right in
        let count = start_length x l.left l.right word in
        let place : first_cell l 1 + p ≡ suc p = omega arith in
        ap (slice_get nested) place ∙ get_left one (start_cells y 0 [] l.steps ++ (start_cells z 0 [] l.output ++ [])) p
        (omega arith) ∙ start_get x l.left l.right word p within
    start_at (suc (suc zero)) p low high within =
        let one = start_cells x l.left word l.right in
        let two = start_cells y 0 [] l.steps in
        let rest = start_cells z 0 [] l.output ++ [] in
        let count = start_length x l.left l.right word in
        let count' = start_length y 0 l.steps [] in
        let place : first_cell l 2 + p ≡ suc (cells_in l 1 + p) = omega arith in
        ap (slice_get nested) place ∙ get_right one (two ++ rest) p (cells_in l 1 + p) (omega arith)
        ∙ get_left two rest p (omega arith) ∙ start_get y 0 l.steps [] p (omega arith)
    start_at (suc (suc (suc zero))) p low high within =
        let one = start_cells x l.left word l.right in
        let two = start_cells y 0 [] l.steps in
        let three = start_cells z 0 [] l.output in
        let count = start_length x l.left l.right word in
        let count' = start_length y 0 l.steps [] in
        let count'' = start_length z 0 l.output [] in
        let place : first_cell l 3 + p ≡ suc (cells_in l 1 + (cells_in l 2 + p)) = omega arith in
        ap (slice_get nested) place ∙ get_right one (two ++ (three ++ [])) (cells_in l 2 + p)
        (cells_in l 1 + (cells_in l 2 + p)) (omega arith) ∙ get_right two (three ++ []) p (cells_in l 2 + p)
        (omega arith) ∙ get_left three [] p (omega arith) ∙ start_get z 0 l.output [] p (omega arith)
    start_at (suc (suc (suc (suc t)))) p low high within = absurd (omega arith)

    -- the letters are the tape's
    word_low : (t : ℕ) → 0 < t → t ≤ 3 → (0 < symbol_count m t) × All (λ s. s < symbol_count m t) (word_on t)
    word_low zero low high = absurd (omega arith)
    word_low (suc zero) low high = (first, letters_low)
    word_low (suc (suc zero)) low high = (second, no_letters y)
    word_low (suc (suc (suc zero))) low high = (third, no_letters z)
    word_low (suc (suc (suc (suc t)))) low high = absurd (omega arith)

    -- the cell with the head is that at position 0
    head_at : (t p i : ℕ) → IsTape t → p < cells_in l t → slice_get start.states (first_cell l t + p) ≡ Some i
        → symbol_count m t ≤ i → p ≡ left_of l t
    head_at t p i tape within has high =
        let here = start_at t p tape.low tape.high within in
        let there : slice_get nested (first_cell l t + p) ≡ Some i =
        subst (λ qs. slice_get qs (first_cell l t + p) ≡ Some i) start_nested has in
        let same : state_number (symbol_count m t) (cell_of (word_tape (word_on t)) (pos p -ℤ pos (left_of l t))) ≡ i =
        same_Some _ _ (sym here ∙ there) in
        let lows = word_low t tape.low tape.high in
        let symbol : cell (word_tape (word_on t)) (pos p -ℤ pos (left_of l t)) < symbol_count m t =
        subst (λ v. v < symbol_count m t) (sym (cell-word (word_on t) (pos p -ℤ pos (left_of l t))))
        (letter_low (symbol_count m t) (word_on t) lows.0 lows.1 (pos p -ℤ pos (left_of l t))) in
        let told = has_head (symbol_count m t) (cell (word_tape (word_on t)) (pos p -ℤ pos (left_of l t)))
        (int_eq (pos p -ℤ pos (left_of l t)) (pos 0)) symbol (subst (λ v. symbol_count m t ≤ v) (sym same) high) in
        let place = (Decides-int_eq (pos p -ℤ pos (left_of l t)) (pos 0)).0 told in
        at_zero p (left_of l t) place
      where
        at_zero : (p left : ℕ) → pos p -ℤ pos left ≡ pos 0 → p ≡ left
        at_zero p left h = omega (arith, ints)

    -- a first cell is not the control
    first_some : (t : ℕ) → 0 < t → t ≤ 3 → 0 < first_cell l t
    first_some zero low high = absurd (omega arith)
    first_some (suc zero) low high = omega arith
    first_some (suc (suc zero)) low high = omega arith
    first_some (suc (suc (suc zero))) low high = omega arith
    first_some (suc (suc (suc (suc t)))) low high = absurd (omega arith)

    -- one head a tape at the start
    pub heads : HasHeads m l start
    heads = record {
      one = λ t p q i j tape here there has is low high. head_at t p i tape here has low
          ∙ sym (head_at t q j tape there is high);
      carried = λ t p q i tape here there place has. absurd (elim place [
        | inl at_right ↦ (let e : 0 ≡ first_cell l t + p = (let h : Enter 0 0 ≡ Enter _ _ = at_right in cc) in let
            some = first_some t tape.low tape.high in omega arith)
        | inr at_left ↦ (let e : 0 ≡ first_cell l t + p = (let h : Enter 0 0 ≡ Enter _ _ = at_left in cc) in let
            some = first_some t tape.low tape.high in omega arith)
      ]);
    }
