-- Words that are of their tapes' symbols and have room stand in the window.
use Rattle.std.specs.Prelude.{◌≢◌, ℕ, ◌<◌, ◌≤◌, ℤ, pos, negsuc, List, All, length, refl}
use Rattle.std.proofs.Common.{zero, suc, arith, inl, inr, sym, subst, ◌∙◌}
use Rattle.std.proofs.lemmas.Int.{ints}
use Rattle.std.proofs.lemmas.Bool.{cases_lt}
use Rattle.std.proofs.lemmas.List.{get_or_past}
use Rattle.bn_machine.specs.Outcome.{Limits}
use Rattle.bn_machine.specs.Tape.{letter_at, word_tape}
use Rattle.bn_machine.specs.Window.{IsBetween}
use Rattle.bn_machine.proofs.TapeLemmas.{cell-word}
use Rattle.bn_quad.specs.Quadruples.{Quadruples}
use Rattle.bn_network.specs.Controls.{symbol_count}
use Rattle.bn_network.specs.Moments.{HasLetters}
use Rattle.bn_network.specs.Starts.{AreInputs, FitsTape, FitsWindow, words_on}

word_fits : (z left right : ℕ) (word : List ℕ) → 0 < z → All (λ x. x < z) word → length word ≤ right
    → FitsTape z left right (word_tape word)
word_fits z left right word some all fits = record {
  head = record { above = omega (arith, ints); below = omega (arith, ints) };
  inside = λ p filled. between p (λ none. filled (cell-word word p ∙ none));
  symbols = λ p. subst (λ v. v < z) (sym (cell-word word p)) (letters p);
}
  where
    between : (p : ℤ) → letter_at word p ≢ 0 → IsBetween left right p
    between (pos zero) filled = absurd (filled refl)
    between (negsuc k) filled = absurd (filled refl)
    between (pos (suc k)) filled = elim (cases_lt k (length word)) [
      | inl low ↦ record { above = omega (arith, ints); below = omega (arith, ints) }
      | inr high ↦ absurd (filled (get_or_past word k 0 high))
    ]

    letters : (p : ℤ) → letter_at word p < z
    letters (pos zero) = some
    letters (negsuc k) = some
    letters (pos (suc k)) = elim (cases_lt k (length word)) [
      | inl low ↦ all k 0 low
      | inr high ↦ let none = get_or_past word k 0 high in omega arith
    ]

-- words on the three tapes
pub inputs-fit : (m : Quadruples) (l : Limits) → HasLetters m → (one two three : List ℕ) → AreInputs m l one two three
    → FitsWindow m l (words_on m one two three)
inputs-fit m l has one two three inputs = record {
  one = word_fits (symbol_count m 1) l.left l.right one (has 1 (record { low = omega arith; high = omega arith }))
      inputs.one_letters inputs.one_room;
  two = word_fits (symbol_count m 2) 0 l.steps two (has 2 (record { low = omega arith; high = omega arith }))
      inputs.two_letters inputs.two_room;
  three = word_fits (symbol_count m 3) 0 l.output three (has 3 (record { low = omega arith; high = omega arith }))
      inputs.three_letters inputs.three_room;
}
