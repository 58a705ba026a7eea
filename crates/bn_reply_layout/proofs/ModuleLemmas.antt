-- The modules of a layout, one by one.
use Rattle.std.specs.Prelude.{◌≡◌, ℕ, ◌+◌, ◌-◌, ◌<◌, ◌≤◌, List, [], ◌++◌, map, length, Some, slice_get, refl}
use Rattle.std.proofs.Common.{zero, suc, arith, inl, inr, sym, ap, ◌∙◌, length-append, append-nil}
use Rattle.std.specs.List.{range_with_len}
use Rattle.std.proofs.lemmas.Bool.{cases_lt}
use Rattle.std.proofs.lemmas.Option.{slice_get_within}
use Rattle.std.proofs.lemmas.List.FromFn.{length-map-range_with_len}
use Rattle.bn_network.specs.Networks.{IsTape, cells_in, first_cell, left_of}
use Rattle.bn_boards.specs.Layouts.{Layout, first_element, symbol_count_at}
use Rattle.bn_reply_layout.specs.declared.bank.Bank.{Bank}
use Rattle.bn_reply_layout.specs.Modules.{cell_bank, control_bank, modules_of, tape_banks}

-- a row of banks, and others behind it
row_get : (f : ℕ → Bank) (a n i : ℕ) (rest : List Bank) → i < n
    → slice_get (map f (range_with_len a n) ++ rest) i ≡ Some (f (a + i))
row_get f a zero i rest low = absurd (omega arith)
row_get f a (suc n) zero rest low = let e : a ≡ a + 0 = omega arith in ap (λ j. Some (f j)) e
row_get f a (suc n) (suc i) rest low = let e : a + 1 + i ≡ a + suc i =
    omega arith in row_get f (a + 1) n i rest (omega arith) ∙ ap (λ j. Some (f j)) e

row_first : (f : ℕ → Bank) (n i : ℕ) (rest : List Bank) → i < n
    → slice_get (map f (range_with_len 0 n) ++ rest) i ≡ Some (f i)
row_first f n i rest low = let e : 0 + i ≡ i = omega arith in row_get f 0 n i rest low ∙ ap (λ j. Some (f j)) e

row_skip : (f : ℕ → Bank) (a n i e : ℕ) (rest : List Bank) → e ≡ n + i
    → slice_get (map f (range_with_len a n) ++ rest) e ≡ slice_get rest i
row_skip f a zero i e rest same = let is : e ≡ i = omega arith in ap (slice_get rest) is
row_skip f a (suc n) i zero rest same = absurd (omega arith)
row_skip f a (suc n) i (suc e) rest same = row_skip f (a + 1) n i e rest (omega arith)

-- the bank of the cell at a place of a tape
abbrev pub bank_at : Layout → ℕ → ℕ → Bank
bank_at b t p = cell_bank t (symbol_count_at b t) (left_of b.limits t) (first_cell b.limits t) (first_element b t) p

-- the module is the control, or a cell
pub data IsPlaced (b : Layout) (k : ℕ) (m : Bank) : Type 0 where
  at_control : k ≡ 0 → m ≡ control_bank b → IsPlaced b k m
  at_cell : (t p : ℕ) → IsTape t → p < cells_in b.limits t → k ≡ first_cell b.limits t + p → m ≡ bank_at b t p
      → IsPlaced b k m

module _ (b : Layout) where
  -- how many there are
  pub module_count : length (modules_of b) ≡ 1 + (cells_in b.limits 1 + (cells_in b.limits 2 + cells_in b.limits 3))
  module_count =
      let one = length-map-range_with_len (bank_at b 1) 0 (cells_in b.limits 1) in
      let two = length-map-range_with_len (bank_at b 2) 0 (cells_in b.limits 2) in
      let three = length-map-range_with_len (bank_at b 3) 0 (cells_in b.limits 3) in
      let last = length-append (tape_banks b 2) (tape_banks b 3) in
      let all = length-append (tape_banks b 1) (tape_banks b 2 ++ tape_banks b 3) in
      omega arith

  -- the control stands first, and each cell at its place
  pub control_stands : slice_get (modules_of b) 0 ≡ Some (control_bank b)
  control_stands = refl

  pub cell_stands : (t p : ℕ) → IsTape t → p < cells_in b.limits t
      → slice_get (modules_of b) (first_cell b.limits t + p) ≡ Some (bank_at b t p)
  cell_stands t p tape low = by_tape t tape.low tape.high low
    where
      after : (k i : ℕ) → k ≡ suc i → slice_get (modules_of b) k
          ≡ slice_get (tape_banks b 1 ++ (tape_banks b 2 ++ tape_banks b 3)) i
      after k i same = ap (slice_get (modules_of b)) same

      last : (i : ℕ) → i < cells_in b.limits 3 → slice_get (tape_banks b 3) i ≡ Some (bank_at b 3 i)
      last i few = ap (λ l. slice_get l i) (sym (append-nil (tape_banks b 3)))
          ∙ row_first (bank_at b 3) (cells_in b.limits 3) i [] few

      by_tape : (t : ℕ) → 0 < t → t ≤ 3 → p < cells_in b.limits t
          → slice_get (modules_of b) (first_cell b.limits t + p) ≡ Some (bank_at b t p)
      by_tape zero some most low = absurd (omega arith)
      by_tape (suc zero) some most low = after (first_cell b.limits 1 + p) p (omega arith)
          ∙ row_first (bank_at b 1) (cells_in b.limits 1) p (tape_banks b 2 ++ tape_banks b 3) low
      by_tape (suc (suc zero)) some most low =
          after (first_cell b.limits 2 + p) (cells_in b.limits 1 + p) (omega arith)
          ∙ row_skip (bank_at b 1) 0 (cells_in b.limits 1) p (cells_in b.limits 1 + p)
          (tape_banks b 2 ++ tape_banks b 3) refl
          ∙ row_first (bank_at b 2) (cells_in b.limits 2) p (tape_banks b 3) low
      by_tape (suc (suc (suc zero))) some most low =
          after (first_cell b.limits 3 + p) (cells_in b.limits 1 + (cells_in b.limits 2 + p)) (omega arith)
          ∙ row_skip (bank_at b 1) 0 (cells_in b.limits 1) (cells_in b.limits 2 + p)
          (cells_in b.limits 1 + (cells_in b.limits 2 + p)) (tape_banks b 2 ++ tape_banks b 3) refl
          ∙ row_skip (bank_at b 2) 0 (cells_in b.limits 2) p (cells_in b.limits 2 + p) (tape_banks b 3) refl
          ∙ last p low
      by_tape (suc (suc (suc (suc t)))) some most low = absurd (omega arith)

  -- and no other module is there
  pub placed : (k : ℕ) (m : Bank) → slice_get (modules_of b) k ≡ Some m → IsPlaced b k m
  placed zero m e = let same : m ≡ control_bank b = cc in at_control refl same
  placed (suc i) m e =
      let count = module_count in
      let within = slice_get_within (modules_of b) (suc i) m e in
      elim (cases_lt i (cells_in b.limits 1)) [
        | inl low ↦ by_cell 1 i (record { low = omega arith; high = omega arith }) low (omega arith)
        | inr past ↦ elim (cases_lt i (cells_in b.limits 1 + cells_in b.limits 2)) [
          | inl low ↦ by_cell 2 (i - cells_in b.limits 1) (record { low = omega arith; high = omega arith })
              (omega arith) (omega arith)
          | inr far ↦ by_cell 3 (i - (cells_in b.limits 1 + cells_in b.limits 2))
              (record { low = omega arith; high = omega arith }) (omega arith) (omega arith)
        ]
      ]
    where
      by_cell : (t p : ℕ) → IsTape t → p < cells_in b.limits t → suc i ≡ first_cell b.limits t + p
          → IsPlaced b (suc i) m
      by_cell t p tape low is =
          let stands = cell_stands t p tape low in
          let there : slice_get (modules_of b) (first_cell b.limits t + p) ≡ Some m =
          ap (slice_get (modules_of b)) (sym is) ∙ e in
          let same : m ≡ bank_at b t p = cc in
          at_cell t p tape low is same
