-- The first marked column of a bank, and lists by the numbers of cells.
use Rattle.std.specs.Prelude.{◌≡◌, ℕ, ◌+◌, ◌*◌, ◌<◌, ◌≤◌, Bool, true, false, List, [], ◌∷◌, ◌++◌, map, length, position}
use Rattle.std.specs.Prelude.{Option, Some, None, slice_get}
use Rattle.std.specs.List.{range_with_len, slice_index_or}
use Rattle.std.proofs.Common.{arith, sym, ap, subst, ◌∙◌}
use Rattle.std.proofs.lemmas.List.FromFn.{length-range_with_len, get_or-range_with_len, map-range_with_len_more}
use Rattle.std.proofs.lemmas.Option.{same_Some, slice_get_within, slice_get-get_or}
use Rattle.std.proofs.Math.Nat.{mul-le-mul_right}
use Rattle.bn_realise.specs.Banks.{column_at}
use Rattle.bn_boards.proofs.FirstLemmas.{position_at}
use Rattle.bn_board.proofs.MomentLemmas.{position_never}

-- the bottom of a column is in the bank
pub bottom_low : (first j columns rows : ℕ) → j < columns → first + j * (rows + 1) + rows < column_at first rows columns
bottom_low first j columns rows low = let h : (j + 1) * (rows + 1) ≤ columns * (rows + 1) =
    mul-le-mul_right (rows + 1) (omega arith) in omega arith

-- the numbers from 0
numbers_at : (n k : ℕ) → k < n → slice_get (range_with_len 0 n) k ≡ Some k
numbers_at n k low =
    let within : k < length (range_with_len 0 n) = omega (arith, length-range_with_len 0 n) in
    let is : slice_index_or (range_with_len 0 n) k 0 ≡ k = omega (arith, get_or-range_with_len 0 n k 0 low) in
    slice_get-get_or (range_with_len 0 n) k 0 within ∙ ap Some is

module _ (p : ℕ → Bool) (n : ℕ) where
  -- the test fails at each number below
  abbrev pub FailsBelow : ℕ → Type 0
  FailsBelow k = (j : ℕ) → j < k → p j ≡ false

  at_number : (j y : ℕ) → slice_get (range_with_len 0 n) j ≡ Some y → p j ≡ false → p y ≡ false
  at_number j y is fails =
      let within = slice_get_within (range_with_len 0 n) j y is in
      let low : j < n = omega (arith, length-range_with_len 0 n) in
      let same : j ≡ y = same_Some j y (sym (numbers_at n j low) ∙ is) in
      subst (λ k. p k ≡ false) same fails

  pub first_number : (k : ℕ) → k < n → p k ≡ true → FailsBelow k → Some k ≡ position p (range_with_len 0 n)
  first_number k low holds fails = sym (position_at p (range_with_len 0 n) k k (numbers_at n k low) holds
      (λ j y less is. at_number j y is (fails j less)))

  pub no_number : (k : ℕ) → n ≤ k → FailsBelow k → None ≡ position p (range_with_len 0 n)
  no_number k over fails = sym (position_never p (range_with_len 0 n)
      (λ j y less is. at_number j y is (fails j (omega (arith, length-range_with_len 0 n)))))

-- one more
pub symbols_pushed : (f : ℕ → Option ℕ) (n : ℕ) (xs ys : List (Option ℕ)) (x : Option ℕ)
    → xs ≡ map f (range_with_len 0 n) → x ≡ f n → ys ≡ xs ++ x ∷ []
    → ys ≡ map f (range_with_len 0 (n + 1))
symbols_pushed f n xs ys x xs_are x_is ys_are =
    let more = map-range_with_len_more f 0 n n (omega arith) in
    let joined : xs ++ x ∷ [] ≡ map f (range_with_len 0 n) ++ f n ∷ [] = (λ i. xs_are i ++ x_is i ∷ []) in
    ys_are ∙ joined ∙ sym more
