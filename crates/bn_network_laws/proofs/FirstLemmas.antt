-- From the start to the first moment.
use Rattle.std.specs.Prelude.{◌≡◌, ◌≢◌, ℕ, ◌+◌, ◌*◌, ◌<◌, ◌≤◌, ℤ, pos, negsuc, ◌-ℤ◌, Bool, true, List, [], ◌∷◌, ◌++◌}
use Rattle.std.specs.Prelude.{length, All, Option, Some, None, slice_get, refl}
use Rattle.std.specs.Ordering.{nat_cmp}
use Rattle.std.specs.Cmp.Lexicographic.{slice_cmp}
use Rattle.std.specs.declared.cmp.Ordering.TheVariants.{Less}
use Rattle.std.proofs.Common.{zero, suc, arith, sym, ap, subst, ◌∙◌, inl, inr, length-append}
use Rattle.std.proofs.lemmas.Int.{ints}
use Rattle.std.proofs.lemmas.Bool.{cases_lt}
use Rattle.std.proofs.lemmas.List.{get_or_past}
use Rattle.std.proofs.lemmas.List.FromFn.{length-map-range_with_len, get_or-map-range_with_len}
use Rattle.std.proofs.lemmas.Option.{slice_get-get_or, slice_get_within}
use Rattle.bn_circuits.specs.Circuits.{Circuit}
use Rattle.bn_rsm.specs.Laws.{CostsAreBounded}
use Rattle.bn_machine.specs.Tape.{word_tape, blank_tape, letter_at}
use Rattle.bn_machine.proofs.TapeLemmas.{cell-word}
use Rattle.bn_machine.specs.Window.{IsBetween}
use Rattle.bn_lists.specs.Lists.{nth}
use Rattle.bn_machine.specs.Outcome.{Limits}
use Rattle.bn_quad.specs.Quadruples.{Rule, Configuration, Quadruples, IsQuadMachine, initial_of}
use Rattle.bn_quad.specs.Calls.{IsUniformMachine}
use Rattle.bn_circuits.specs.Situations.{Situation}
use Rattle.bn_rsm.specs.RunCosts.{run_cost}
use Rattle.bn_network.specs.Cells.{state_number}
use Rattle.bn_network.specs.Controls.{ControlState, Begin, End, Reads, Shifts, Writes, Outside, begins, is_begin}
use Rattle.bn_network.specs.Controls.{IsNumbering, symbol_count, key_of, control_lines}
use Rattle.bn_network.specs.ControlLaws.{StatesHaveEntries}
use Rattle.bn_network.specs.Networks.{IsNetwork, IsControlAt, ShowsTape, ShowsTapes, IsTape, first_cell, cell_of}
use Rattle.bn_network.specs.Networks.{start_cells, network_start, elements_by, bank_size}
use Rattle.bn_network.specs.Moments.{IsMomentOf, TellsMoments, Travels, HasLetters}
use Rattle.bn_network_laws.specs.NetworkLaws.{FirstMoment}
use Rattle.bn_network_laws.specs.Commands.{tape_elements}
use Rattle.bn_network_laws.proofs.OrderLemmas.{occurs_entry}
use Rattle.bn_network_laws.proofs.ChainLemmas.{control_turns}
use Rattle.bn_network_laws.proofs.RangeLemmas.{rule_range}
use Rattle.bn_network_laws.proofs.NextLemmas.{told}

-- ---- the control begins in its first state

-- no state is ordered before the first
not_below : (q : ControlState) → slice_cmp nat_cmp (key_of q) (key_of Begin) ≡ Less → ⊥
not_below Begin e = cc
not_below End e = cc
not_below (Reads a s) e = cc
not_below (Shifts n t) e = cc
not_below (Writes a t u) e = cc

-- so the control's first state has number 0
pub begin_first : (m : _) (names : List ControlState) → IsNumbering m names → slice_get names 0 ≡ Some Begin
begin_first m names numbering = by_number ((numbering.each Begin (is_begin refl)).0)
    (numbering.each Begin (is_begin refl)).1
  where
    by_first : (n : ℕ) → slice_get names (suc n) ≡ Some Begin → (o : Option ControlState) → slice_get names 0 ≡ o
        → slice_get names 0 ≡ Some Begin
    by_first n e (Some q) is = absurd (not_below q (numbering.rising_keys 0 (suc n) q Begin (omega arith) is e))
    by_first n e None is = absurd (let long = slice_get_within names (suc n) Begin e in none names is long)
      where
        none : (xs : List ControlState) → slice_get xs 0 ≡ None → suc n < length xs → ⊥
        none [] is long = omega arith
        none (x ∷ xs) is long = cc

    by_number : (n : ℕ) → slice_get names n ≡ Some Begin → slice_get names 0 ≡ Some Begin
    by_number zero e = e
    by_number (suc n) e = by_first n e (slice_get names 0) refl

-- ---- lists of states

-- an element of the first part of a list
pub in_front : {X : Type 0} (xs ys : List X) (j : ℕ) (x : X) → slice_get xs j ≡ Some x → slice_get (xs ++ ys) j ≡ Some x
in_front [] ys j x e = absurd (cc)
in_front (a ∷ xs) ys zero x e = e
in_front (a ∷ xs) ys (suc j) x e = in_front xs ys j x e

-- an element of the second part
pub behind : {X : Type 0} (xs ys : List X) (j n : ℕ) (x : X) → n ≡ length xs + j → slice_get ys j ≡ Some x
    → slice_get (xs ++ ys) n ≡ Some x
behind [] ys j n x sum e = let same : j ≡ n = omega arith in subst (λ i. slice_get ys i ≡ Some x) same e
behind (a ∷ xs) ys j zero x sum e = absurd (omega arith)
behind (a ∷ xs) ys j (suc n) x sum e = behind xs ys j n x (omega arith) e

-- a cell at the start
cells_start : (z left : ℕ) (word : List ℕ) (right j : ℕ) → j < left + right + 1
    → slice_get (start_cells z left word right) j ≡ Some (state_number z (cell_of (word_tape word) (pos j -ℤ pos left)))
cells_start z left word right j lt =
    let size = length-map-range_with_len (λ i. state_number z (cell_of (word_tape word) (pos i -ℤ pos left))) 0
    (left + right + 1) in
    slice_get-get_or (start_cells z left word right) j 0 (omega arith)
    ∙ ap (λ (v : ℕ). Some v) (get_or-map-range_with_len (λ i. state_number z
    (cell_of (word_tape word) (pos i -ℤ pos left))) 0 (left + right + 1) j j 0 lt (omega arith))

-- how many cells there are
size_start : (z left : ℕ) (word : List ℕ) (right : ℕ) → length (start_cells z left word right) ≡ left + right + 1
size_start z left word right = length-map-range_with_len (λ i. state_number z
    (cell_of (word_tape word) (pos i -ℤ pos left))) 0 (left + right + 1)

-- ---- a word's tape

-- letters lie in the window
word_between : (word : List ℕ) (left right : ℕ) → length word ≤ right → (p : ℤ) → letter_at word p ≢ 0
    → IsBetween left right p
word_between word left right fits (pos zero) some = absurd (some refl)
word_between word left right fits (negsuc k) some = absurd (some refl)
word_between word left right fits (pos (suc k)) some = elim (cases_lt k (length word)) [
  | inl low ↦ record { above = omega (arith, ints); below = omega (arith, ints) }
  | inr high ↦ absurd (some (get_or_past word k 0 high))
]

-- letters are among the tape's symbols
word_letters : (word : List ℕ) (z : ℕ) → 0 < z → All (λ x. x < z) word → (p : ℤ) → letter_at word p < z
word_letters word z some all (pos zero) = some
word_letters word z some all (negsuc k) = some
word_letters word z some all (pos (suc k)) = elim (cases_lt k (length word)) [
  | inl low ↦ all k 0 low
  | inr high ↦ let none = get_or_past word k 0 high in omega arith
]

-- cells that hold a word's states show its tape
shows_word : (states : List ℕ) (first z left right : ℕ) (word : List ℕ) → 0 < z → All (λ x. x < z) word
    → length word ≤ right
    → ((j : ℕ) → j < left + right + 1 → slice_get states (first + j)
    ≡ Some (state_number z (cell_of (word_tape word) (pos j -ℤ pos left))))
    → ShowsTape states first z left right (word_tape word)
shows_word states first z left right word some all fits cells = record {
  head = record { above = omega (arith, ints); below = omega (arith, ints) };
  shown = record {
    inside = λ p filled. word_between word left right fits p (λ none. filled (cell-word word p ∙ none));
    symbols = λ p. subst (λ v. v < z) (sym (cell-word word p)) (word_letters word z some all p);
    cells = cells;
  };
}

-- no letter is out of range where there is none
no_letters : (z : ℕ) → All (λ x. x < z) []
no_letters z = λ i x lt. absurd (omega arith)

-- the three tapes
is_tape : (t : ℕ) → 0 < t → t ≤ 3 → IsTape t
is_tape t low high = record { low = low; high = high }

-- at the start the cells show the word and two blank tapes
pub start_shown : (m : Quadruples) (l : Limits) (word : List ℕ) → HasLetters m → All (λ x. x < symbol_count m 1) word
    → length word ≤ l.right
    → ShowsTapes m l (network_start m l word).states (record {
      state = initial_of m.rules;
      one = word_tape word;
      two = blank_tape;
      three = blank_tape;
    })
start_shown m l word has all fits =
    let a = start_cells (symbol_count m 1) l.left word l.right in
    let b = start_cells (symbol_count m 2) 0 [] l.steps in
    let d = start_cells (symbol_count m 3) 0 [] l.output in
    let size_a = size_start (symbol_count m 1) l.left word l.right in
    let size_b = size_start (symbol_count m 2) 0 [] l.steps in
    let whole = length-append (0 ∷ a) b in
    record {
      one = shows_word (network_start m l word).states (first_cell l 1) (symbol_count m 1) l.left l.right word
          (has 1 (is_tape 1 (omega arith) (omega arith))) all fits
          (λ j lt. in_front ((0 ∷ a) ++ b) d (first_cell l 1 + j) _
          (in_front (0 ∷ a) b (first_cell l 1 + j) _ (behind (0 ∷ []) a j (first_cell l 1 + j) _ (omega arith)
          (cells_start (symbol_count m 1) l.left word l.right j lt))));
      two = shows_word (network_start m l word).states (first_cell l 2) (symbol_count m 2) 0 l.steps []
          (has 2 (is_tape 2 (omega arith) (omega arith))) (no_letters (symbol_count m 2)) (omega arith)
          (λ j lt. in_front ((0 ∷ a) ++ b) d (first_cell l 2 + j) _
          (behind (0 ∷ a) b j (first_cell l 2 + j) _ (two_at (first_cell l 2 + j) j (length a) (l.left + l.right)
          size_a refl) (cells_start (symbol_count m 2) 0 [] l.steps j lt)));
      three = shows_word (network_start m l word).states (first_cell l 3) (symbol_count m 3) 0 l.output []
          (has 3 (is_tape 3 (omega arith) (omega arith))) (no_letters (symbol_count m 3)) (omega arith)
          (λ j lt. behind ((0 ∷ a) ++ b) d j (first_cell l 3 + j) _ (omega arith)
          (cells_start (symbol_count m 3) 0 [] l.output j lt));
    }
  where
    two_at : (n j x y : ℕ) → x ≡ y + 1 → n ≡ 1 + (y + 1) + j → n ≡ suc x + j
    two_at n j x y size sum = omega arith

module _ (costs : CostsAreBounded) (has : StatesHaveEntries) (m : Quadruples) (l : Limits) (names : List ControlState)
    (k : Circuit) (test : Situation
    → Bool) (word : List ℕ)
    (machine : IsQuadMachine m) (uniform : IsUniformMachine m) (symbols : HasLetters m)
    (numbering : IsNumbering m names) (net : IsNetwork m l names k) (tells : TellsMoments m names k test) where
  -- the initial state is one of the states
  initial_low : (rs : List (Rule ℕ)) → m.rules ≡ rs → 0 < length rs → initial_of rs < m.states
  initial_low [] is some = absurd (omega arith)
  initial_low (r ∷ rs) is some = (rule_range m machine 1 r (ap (λ (xs : List (Rule ℕ)). nth xs 1) is)).from

  -- one move of the control leads to the first moment
  first_moment : All (λ x. x < symbol_count m 1) word → length word ≤ l.right
      → (t : Situation) × Travels k test 1 (4 * elements_by m l (length names)) (network_start m l word) t
      × IsMomentOf m l names k t (record {
        state = initial_of m.rules;
        one = word_tape word;
        two = blank_tape;
        three = blank_tape;
      }) × (test t ≡ true)
  first_moment all fits =
      let c : Configuration ℕ = record {
        state = initial_of m.rules;
        one = word_tape word;
        two = blank_tape;
        three = blank_tape;
      } in
      let e = (has m machine uniform).some (initial_of m.rules) (initial_low m.rules refl machine.some) in
      let waits : IsControlAt names (network_start m l word).states Begin =
      record { number = 0; is = refl; named = begin_first m names numbering } in
      let turned = control_turns costs m l names k numbering net test (network_start m l word) Begin Outside e.0 c waits
      refl (start_shown m l word symbols all fits) (begins refl refl e.1)
      (occurs_entry m (initial_of m.rules) e.0 e.1) in
      let moment : IsMomentOf m l names k turned.0 c = record {
        first = e.0;
        entry = e.1;
        waits = turned.2.waits;
        place = turned.2.place;
        shows = turned.2.shows;
      } in (
        turned.0,
        record { path = turned.1.path; cost = few (run_cost k 1 (network_start m l word)) turned.1.cost },
        moment,
        told m l names k test net (has m machine uniform) tells turned.0 c moment,
      )
    where
      sums : (x a b d e : ℕ) → x ≤ 4 * d → x ≤ 4 * (d + a + b + e)
      sums x a b d e h = omega arith

      few : (x : ℕ) → x ≤ 4 * bank_size (length names) (control_lines m) → x ≤ 4 * elements_by m l (length names)
      few x h = sums x (tape_elements m l 1) (tape_elements m l 2) (bank_size (length names) (control_lines m))
          (tape_elements m l 3) h

-- the law
pub first-moment : CostsAreBounded → StatesHaveEntries → FirstMoment
first-moment costs has m l names k test word machine uniform symbols numbering net tells all fits =
    first_moment costs has m l names k test word machine uniform symbols numbering net tells all fits
