-- The ways in which a tape can stand in a window have numbers.
use Rattle.bn_lists.proofs.PairingLemmas.{paired_low}
use Rattle.std.specs.Prelude.{◌≡◌, ℕ, ◌+◌, ◌-◌, ◌*◌, ◌<◌, ◌^◌, ℤ, pos, negsuc, ◌-ℤ◌}
use Rattle.std.proofs.Common.{zero, suc, arith, sym, ap, subst, ◌∙◌, inl, inr}
use Rattle.std.proofs.Math.Nat.{mul_comm, pow-suc, pow-zero}
use Rattle.std.proofs.lemmas.Nat.{mul-add-lt, same_from_place}
use Rattle.std.proofs.lemmas.Int.{ints}
use Rattle.std.proofs.lemmas.Bool.Decides.{eqb_tells}
use Rattle.bn_machine.specs.Tape.{Tape, cell}
use Rattle.bn_machine.specs.Window.{IsBetween}
use Rattle.bn_machine.proofs.TapeLemmas.{same_tape}
use Rattle.bn_network.specs.Starts.{FitsTape}
use Rattle.bn_boards.specs.OwnRuns.{tape_count}

-- ---- places in the window

pub place_number : ℕ → ℤ → ℕ
place_number left (pos a) = a + left
place_number left (negsuc a) = left - suc a

place_low : (left right : ℕ) (p : ℤ) → IsBetween left right p → place_number left p < left + right + 1
unfolding place_number
place_low left right (pos a) at = let high = at.below in omega (arith, ints)
place_low left right (negsuc a) at = omega arith

place_is : (left right : ℕ) (p : ℤ) → IsBetween left right p → p ≡ pos (place_number left p) -ℤ pos left
unfolding place_number
place_is left right (pos a) at = omega (arith, ints)
place_is left right (negsuc a) at = let low = at.above in omega (arith, ints)

-- ---- what the cells hold

contents_number : ℕ → (ℕ → ℕ) → ℕ → ℕ
contents_number z f zero = 0
contents_number z f (suc k) = contents_number z f k * z + f k

contents_low : (z : ℕ) (f : ℕ → ℕ) → ((j : ℕ) → f j < z) → (k : ℕ) → contents_number z f k < z ^ k
unfolding contents_number
contents_low z f low zero = omega (arith, pow-zero z)
contents_low z f low (suc k) =
    subst (λ x. contents_number z f k * z + f k < x) (sym (pow-suc z k))
    (paired_low (contents_number z f k) (f k) (z ^ k) z (contents_low z f low k) (low k))

contents_apart : (z : ℕ) (f g : ℕ → ℕ) → ((j : ℕ) → f j < z) → ((j : ℕ) → g j < z) → (k : ℕ)
    → contents_number z f k ≡ contents_number z g k → (j : ℕ) → j < k → f j ≡ g j
unfolding contents_number
contents_apart z f g low less zero same j h = absurd (omega arith)
contents_apart z f g low less (suc k) same j h =
    let both = same_from_place (contents_number z f k) (f k) (contents_number z g k) (g k) z (low k) (less k) same in
    elim (eqb_tells j k) [
      | inl here ↦ subst (λ i. f i ≡ g i) (sym here.1) both.1
      | inr other ↦ (let apart = other.1 in contents_apart z f g low less k both.0 j (omega arith))
    ]

-- ---- tapes

module _ (z left right : ℕ) where
  symbols_of : Tape → ℕ → ℕ
  symbols_of x j = cell x (pos j -ℤ pos left)

  pub tape_number : Tape → ℕ
  tape_number x = contents_number z (symbols_of x) (left + right + 1) * (left + right + 1) + place_number left x.head

  pub tape_low : (x : Tape) → FitsTape z left right x → tape_number x < tape_count z left right
  unfolding tape_number symbols_of
  tape_low x fits = paired_low (contents_number z (symbols_of x) (left + right + 1)) (place_number left x.head)
      (z ^ (left + right + 1)) (left + right + 1)
      (contents_low z (symbols_of x) (λ j. fits.symbols (pos j -ℤ pos left)) (left + right + 1))
      (place_low left right x.head fits.head)

  module _ (x y : Tape) (in_x : FitsTape z left right x) (in_y : FitsTape z left right y) where
    -- tapes that agree within the window agree
    by_cells : ((q : ℤ) → IsBetween left right q → cell x q ≡ cell y q) → (q : ℤ) → cell x q ≡ cell y q
    by_cells same q =
        elim (eqb_tells (cell x q) 0) [
          | inl blank ↦ (elim (eqb_tells (cell y q) 0) [
            | inl also ↦ blank.1 ∙ sym also.1
            | inr other ↦ same q (in_y.inside q other.1)
          ])
          | inr other ↦ same q (in_x.inside q other.1)
        ]

    pub tape_apart : tape_number x ≡ tape_number y → x ≡ y
    unfolding tape_number symbols_of
    tape_apart same =
        let both = same_from_place (contents_number z (symbols_of x) (left + right + 1)) (place_number left x.head)
        (contents_number z (symbols_of y) (left + right + 1)) (place_number left y.head) (left + right + 1)
        (place_low left right x.head in_x.head) (place_low left right y.head in_y.head) same in
        let within : (j : ℕ) → j < left + right + 1 → symbols_of x j ≡ symbols_of y j =
        contents_apart z (symbols_of x) (symbols_of y) (λ j. in_x.symbols (pos j -ℤ pos left))
        (λ j. in_y.symbols (pos j -ℤ pos left)) (left + right + 1) both.0 in
        let heads : x.head ≡ y.head = place_is left right x.head in_x.head ∙ ap (λ j. pos j -ℤ pos left) both.1
        ∙ sym (place_is left right y.head in_y.head) in
        same_tape x y (by_cells (λ q at.
        (subst (λ p. cell x p ≡ cell y p) (sym (place_is left right q at))
        (within (place_number left q) (place_low left right q at))))) heads
