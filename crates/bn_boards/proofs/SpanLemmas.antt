-- What the cells of a board show spans the window, whatever its bars are.
use Rattle.std.specs.Prelude.{◌≡◌, ℕ, ◌+◌, ◌-◌, ◌*◌, ◌<◌, ℤ, pos, ◌-ℤ◌, List, position, Option, Some, None, refl}
use Rattle.std.specs.Prelude.{slice_get, nat_lt, if◌then◌else◌, Bool, true, false}
use Rattle.std.specs.List.{range_with_len}
use Rattle.std.specs.Option.{option_map}
use Rattle.std.proofs.Common.{arith, ap, subst, ◌∙◌, sym}
use Rattle.std.proofs.lemmas.Bool.{ltb-true}
use Rattle.std.proofs.lemmas.Int.{ints}
use Rattle.std.proofs.lemmas.List.FromFn.{length-map-range_with_len, length-range_with_len}
use Rattle.std.proofs.lemmas.List.Quantifiers.{position-Some}
use Rattle.std.proofs.lemmas.Option.{slice_get-map}
use Rattle.bn_machine.specs.Outcome.{Limits}
use Rattle.bn_machine.specs.Window.{IsBetween}
use Rattle.bn_network.specs.Cells.{cell_line_count}
use Rattle.bn_network.specs.Networks.{cells_in, left_of}
use Rattle.bn_realise.specs.Banks.{bottom_at}
use Rattle.bn_boards.specs.Layouts.{Layout, cell_element, cell_state_at, cells_shown, has_head, head_shown}
use Rattle.bn_boards.specs.Layouts.{is_marked_at, spelled_tape, symbol_by, symbol_count_at}
use Rattle.bn_boards.specs.Spans.{Spans}

-- a symbol by a cell's state is one of the tape's
symbol_known : (z q : ℕ) → q < 2 * z → symbol_by z q < z
symbol_known z q low = by (nat_lt q z) refl
  where
    by : (b : Bool) → nat_lt q z ≡ b → (if b then q else q - z) < z
    by true is = ltb-true q z is
    by false is = omega arith

module _ (b : Layout) (l : Limits) (states : List ℕ) (tape left right symbols : ℕ) (same : b.limits ≡ l)
    (from : left_of l tape ≡ left) (many : cells_in l tape ≡ left + right + 1)
    (letters : symbol_count_at b tape ≡ symbols) where
  cells_are : cells_in b.limits tape ≡ left + right + 1
  cells_are = ap (λ (m : Limits). cells_in m tape) same ∙ many

  left_are : left_of b.limits tape ≡ left
  left_are = ap (λ (m : Limits). left_of m tape) same ∙ from

  abbrev shows_head : ℕ → Bool
  shows_head i = has_head (symbol_count_at b tape) (cell_state_at b states tape i)

  abbrev places : List ℕ
  places = range_with_len 0 (cells_in b.limits tape)

  head_inside : (p : ℤ) → head_shown b states tape ≡ Some p → IsBetween left right p
  head_inside p h = by (position shows_head places) refl h
    where
      by : (o : Option ℕ) → position shows_head places ≡ o
          → option_map (λ i. pos i -ℤ pos (left_of b.limits tape)) o ≡ Some p → IsBetween left right p
      by None is e = absurd (cc)
      by (Some i) is e =
          let low = (position-Some shows_head places i 0 is).0 in
          let count = length-range_with_len 0 (cells_in b.limits tape) in
          let inside : i < left + right + 1 = omega (arith, low, count, cells_are) in
          let there : pos i -ℤ pos (left_of b.limits tape) ≡ p = cc in
          subst (IsBetween left right) (ap (λ n. pos i -ℤ pos n) (sym left_are) ∙ there)
          (record { above = omega (arith, ints); below = omega (arith, ints) })

  cell_known : (k s : ℕ) → slice_get (cells_shown b states tape) k ≡ Some (Some s) → s < symbols
  cell_known k s h =
      by (slice_get places k)
      (sym (slice_get-map (λ i. option_map (symbol_by (symbol_count_at b tape)) (cell_state_at b states tape i)) places
      k)
      ∙ h)
    where
      at : (i : ℕ) (o : Option ℕ) → cell_state_at b states tape i ≡ o
          → option_map (symbol_by (symbol_count_at b tape)) o ≡ Some s → s < symbols
      at i None is e = absurd (cc)
      at i (Some q) is e =
          let low = (position-Some (λ j. is_marked_at states
          (bottom_at (cell_element b tape i) (cell_line_count (symbol_count_at b tape)) j))
          (range_with_len 0 (2 * symbol_count_at b tape)) q 0 is).0 in
          let count = length-range_with_len 0 (2 * symbol_count_at b tape) in
          let inside : q < 2 * symbol_count_at b tape = omega (arith, low, count) in
          let there : symbol_by (symbol_count_at b tape) q ≡ s = cc in
          let known = symbol_known (symbol_count_at b tape) q inside in
          subst (λ z. s < z) letters (subst (λ x. x < symbol_count_at b tape) there known)

      by : (o : Option ℕ)
          → option_map (λ i. option_map (symbol_by (symbol_count_at b tape)) (cell_state_at b states tape i)) o
          ≡ Some (Some s) → s < symbols
      by None e = absurd (cc)
      by (Some i) e = at i (cell_state_at b states tape i) refl (cc)

  pub spans : Spans left right symbols (spelled_tape b states tape)
  spans = record {
    first = ap (λ n. pos 0 -ℤ pos n) left_are;
    cells = length-map-range_with_len _ 0 (cells_in b.limits tape) ∙ cells_are;
    head = head_inside;
    known = cell_known;
  }
