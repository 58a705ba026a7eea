-- The cell that shows a tape's head shows the symbol that it scans.
use Rattle.std.specs.Prelude.{◌≡◌, ℕ, ◌+◌, ℤ, pos, ◌-ℤ◌, List, Option, Some, None, slice_get}
use Rattle.std.specs.Int.RustNames.{unsigned_abs}
use Rattle.std.specs.List.{range_with_len}
use Rattle.std.specs.Option.{option_map}
use Rattle.std.proofs.Common.{arith, sym, ap, ◌∙◌}
use Rattle.std.proofs.lemmas.Int.{ints}
use Rattle.std.proofs.lemmas.Option.{same_Some, slice_get-map}
use Rattle.bn_machine.specs.Tape.{Tape, cell, scanned}
use Rattle.bn_machine.specs.Window.{IsBetween}
use Rattle.bn_network.specs.Moments.{head_cell}
use Rattle.bn_network_laws.proofs.TapeShownLemmas.{head_place, head_within, scanned_in}
use Rattle.bn_boards.specs.declared.spelled.SpelledTape.{SpelledTape}
use Rattle.bn_boards.specs.Layouts.{tape_in}
use Rattle.bn_boards.proofs.ShownHeadLemmas.{shown_inside}
use Rattle.bn_boards.proofs.SpellingLemmas.{range_get}

module _ (s : SpelledTape) (left right many : ℕ) (x : Tape) (is : s ≡ tape_in left many x)
    (count : many ≡ left + right + 1)
    (between : IsBetween left right x.head) where
  -- a cell shows the head
  head_is : s.head ≡ Some x.head
  head_is = ap (λ (y : SpelledTape). y.head) is ∙ shown_inside left right many x count between

  pub some_head : s.head ≡ None → ⊥
  some_head none = let both : ◌≡◌ {A = Option ℤ} (Some x.head) None = sym head_is ∙ none in cc

  -- and that cell the symbol
  pub scanned_cell : (h : ℤ) → s.head ≡ Some h → slice_get s.cells (unsigned_abs (h -ℤ s.first)) ≡ Some
      (Some (scanned x))
  scanned_cell h at =
      let same : x.head ≡ h = same_Some x.head h (sym head_is ∙ at) in
      let first : s.first ≡ pos 0 -ℤ pos left = ap (λ (y : SpelledTape). y.first) is in
      let place = head_place left right x between in
      let within = head_within left right many x count between in
      let number : unsigned_abs (h -ℤ s.first) ≡ head_cell left x =
      place_of h s.first (head_cell left x) (sym same ∙ place) first in
      let shown : slice_get s.cells (unsigned_abs (h -ℤ s.first)) ≡ slice_get (tape_in left many x).cells
      (head_cell left x) =
      λ i. slice_get (is i).cells (number i) in
      let symbol = scanned_in left right x between in
      shown ∙ slice_get-map (λ j. Some (cell x (pos j -ℤ pos left))) (range_with_len 0 many) (head_cell left x)
      ∙ ap (option_map (λ j. Some (cell x (pos j -ℤ pos left))))
      (range_get 0 many (head_cell left x) (head_cell left x) within (omega arith))
      ∙ ap (λ c. Some (Some c)) symbol
    where
      place_of : (h first : ℤ) (k : ℕ) → h ≡ pos k -ℤ pos left → first ≡ pos 0 -ℤ pos left
          → unsigned_abs (h -ℤ first) ≡ k
      place_of h first k a b = omega (arith, ints)

  pub cell_told : (h : ℤ) → s.head ≡ Some h → (cells : List (Option ℕ)) (k : ℕ) → cells ≡ s.cells
      → k ≡ unsigned_abs (h -ℤ s.first)
      → slice_get cells k ≡ Some (Some (scanned x))
  cell_told h at cells k all place = (λ i. slice_get (all i) (place i)) ∙ scanned_cell h at
