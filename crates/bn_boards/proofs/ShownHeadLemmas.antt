-- A head in the window is shown where it is.
use Rattle.std.specs.Prelude.{◌≡◌, ℕ, ◌+◌, ◌-◌, ◌<◌, ℤ, pos, negsuc, ◌-ℤ◌, Bool, true, false, Some, slice_get, refl}
use Rattle.std.specs.List.{range_with_len}
use Rattle.std.specs.Option.{option_map}
use Rattle.std.specs.Ordering.{int_eq}
use Rattle.std.proofs.Common.{suc, arith, sym, ap, ◌∙◌}
use Rattle.std.proofs.lemmas.Bool.Decides.{Decides-int_eq}
use Rattle.std.proofs.lemmas.Int.{ints}
use Rattle.bn_machine.specs.Window.{IsBetween}
use Rattle.bn_machine.specs.Tape.{Tape}
use Rattle.bn_boards.specs.Layouts.{tape_in}
use Rattle.bn_boards.proofs.FirstLemmas.{position_at}
use Rattle.bn_boards.proofs.SpellingLemmas.{range_get, range_holds}

-- a position's cell
index_of : (left right : ℕ) (p : ℤ) → IsBetween left right p
    → (j : ℕ) × (j < left + right + 1) × (pos j -ℤ pos left ≡ p)
index_of left right (pos k) between = let low = between.below in (k + left, omega (arith, ints), omega (arith, ints))
index_of left right (negsuc k) between = let low = between.above in
    (left - suc k, omega (arith, ints), omega (arith, ints))

-- a position has one cell
same_index : (left j k : ℕ) → pos j -ℤ pos left ≡ pos k -ℤ pos left → j ≡ k
same_index left j k h = omega (arith, ints)

pub shown_inside : (left right many : ℕ) (tape : Tape) → many ≡ left + right + 1 → IsBetween left right tape.head
    → (tape_in left many tape).head ≡ Some tape.head
shown_inside left right many tape count between =
    let p = tape.head in
    let here = index_of left right p between in
    let low : here.0 < many = omega (arith, here.1) in
    let is = (Decides-int_eq (pos here.0 -ℤ pos left) p).1 here.2 in
    let found = position_at (λ j. int_eq (pos j -ℤ pos left) p) (range_with_len 0 many) here.0 here.0
    (range_get 0 many here.0 here.0 low (omega arith)) is (never here.0 here.2) in
    ap (option_map (λ j. pos j -ℤ pos left)) found ∙ ap (λ v. Some v) here.2
  where
    never : (h : ℕ) → pos h -ℤ pos left ≡ tape.head → (k v : ℕ) → k < h → slice_get (range_with_len 0 many) k ≡ Some v
        → int_eq (pos v -ℤ pos left) tape.head ≡ false
    never h place k v less there = by_test (int_eq (pos v -ℤ pos left) tape.head) refl
      where
        by_test : (e : Bool) → int_eq (pos v -ℤ pos left) tape.head ≡ e → e ≡ false
        by_test false is = refl
        by_test true is = absurd (let head = (Decides-int_eq (pos v -ℤ pos left) tape.head).0 is in let one = same_index
            left v h (head ∙ sym place) in let e = range_holds 0 many k v there in omega arith)
