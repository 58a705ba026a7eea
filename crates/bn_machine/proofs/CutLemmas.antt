-- Runs on the first letters of a word, and tapes that are longer than every run: what a program with a window needs of
-- runs without ends.
use Rattle.std.specs.Prelude.{◌≡◌, ◌≢◌, ℕ, suc, ◌+◌, ◌<◌, ◌≤◌, ℤ, pos, ◌+ℤ◌, ◌≤ℤ◌, List, ◌++◌, length, slice_index, ◌-◌}
use Rattle.std.specs.Prelude.{drop, ◌⊎◌}
use Rattle.std.proofs.Common.{refl, sym, ◌∙◌, ap, arith, inl, inr, get_or, length-append, length-drop}
use Rattle.std.proofs.lemmas.Int.{ints}
use Rattle.std.proofs.lemmas.Bool.{cases_lt}
use Rattle.std.proofs.lemmas.List.{get_or_append_left, get_or-append_right, get_or_past, get_or-drop}
use Rattle.bn_machine.specs.Tape.{cell, moved}
use Rattle.bn_machine.specs.Window.{anywhere, Windowed, IsBetween, IsBeyond}
use Rattle.bn_machine.specs.Machine.{Program, Moment, IsLeaving}
use Rattle.bn_machine.specs.Run.{After, IsOutput}
use Rattle.bn_machine.specs.Steps.{AgreesUpTo}
use Rattle.bn_machine.proofs.MachineStepLemmas.{word_beyond}
use Rattle.bn_machine.specs.declared.quint.Shift.{Shift}
use Rattle.bn_machine.specs.declared.quint.Shift.TheVariants as shifts
use Rattle.bn_machine.specs.declared.quint.Side.{Side}
use Rattle.bn_machine.specs.declared.quint.Side.TheVariants.{Left, Right}

near_stays : (left right : ℕ) (p : ℤ) (s : Shift) (side : Side) (i : ℕ) → IsBetween i i p → i < left → i < right
    → IsBeyond left right side (moved p s) → ⊥
near_stays left right p shifts.Left Left i h a b beyond = absurd (omega (arith, ints, h.above, h.below, beyond))
near_stays left right p shifts.Stay Left i h a b beyond = absurd (omega (arith, ints, h.above, h.below, beyond))
near_stays left right p shifts.Right Left i h a b beyond = absurd (omega (arith, ints, h.above, h.below, beyond))
near_stays left right p shifts.Left Right i h a b beyond = absurd (omega (arith, ints, h.above, h.below, beyond))
near_stays left right p shifts.Stay Right i h a b beyond = absurd (omega (arith, ints, h.above, h.below, beyond))
near_stays left right p shifts.Right Right i h a b beyond = absurd (omega (arith, ints, h.above, h.below, beyond))

-- a head from -i to i doesn't leave a window that has more than i cells on each side
pub near_not_leaving : (p : Program) (s : ℕ) (w : Windowed) (side : Side) (i : ℕ) → IsBetween i i w.tape.head
    → i < w.left → i < w.right → IsLeaving p s w side → ⊥
near_not_leaving p s w side i near low high l = near_stays w.left w.right w.tape.head l.quint.shift side i near low high
    l.leaves

-- Where an output ends before position k, two moments that agree up to k have it both.
pub output_before : (k : ℕ) (c d : Moment) (y : List ℕ) → AgreesUpTo (pos k) d c
    → (c.tape.head +ℤ pos (suc (length y))) ≤ℤ pos k → IsOutput c.tape y → IsOutput d.tape y
output_before k c d y a inside out = record {
  letters = out.letters;
  spelled = λ j h.
      let there : (d.tape.head +ℤ pos (suc j)) ≡ (c.tape.head +ℤ pos (suc j)) = ap (λ p. p +ℤ pos (suc j)) a.head in
      let early : (c.tape.head +ℤ pos (suc j)) ≤ℤ pos k = omega (arith, ints) in
      ap (cell d.tape) there ∙ a.cells (c.tape.head +ℤ pos (suc j)) early ∙ out.spelled j h;
  ended =
      let there : (d.tape.head +ℤ pos (suc (length y))) ≡ (c.tape.head +ℤ pos (suc (length y))) =
      ap (λ p. p +ℤ pos (suc (length y))) a.head in
      ap (cell d.tape) there ∙ a.cells (c.tape.head +ℤ pos (suc (length y))) inside ∙ out.ended;
}

-- the letters of y and then those of z
both_letters : (y z : List ℕ) → ((j : ℕ) → j < length y → slice_index y j ≢ 0)
    → ((j : ℕ) → j < length z → slice_index z j ≢ 0) → (j : ℕ) → j < length (y ++ z) → slice_index (y ++ z) j ≢ 0
both_letters y z first second j h = by_place (cases_lt j (length y))
  where
    by_place : (j < length y) ⊎ (length y ≤ j) → slice_index (y ++ z) j ≢ 0
    by_place (inl low) e = first j low (sym (get_or_append_left y z 0 j low) ∙ e)
    by_place (inr high) e =
        let inside : j - length y < length z = omega (arith, length-append y z) in
        second (j - length y) inside (sym (get_or-append_right y z (length y) j 0 refl high) ∙ e)

-- Where an output on the first k letters reaches up to k, the rest of the word goes on with it: no head has come so
-- far.
pub output_beyond : (p : Program) (word : List ℕ) (k i : ℕ) (c d : Moment) (y : List ℕ) → i ≤ k
    → ((j : ℕ) → j < length word → slice_index word j ≢ 0) → After p word i d → AgreesUpTo (pos k) d c
    → (c.tape.head +ℤ pos (length y)) ≡ pos k → IsOutput c.tape y → IsOutput d.tape (y ++ drop k word)
output_beyond p word k i c d y early letters run a reach out =
    record { letters = all_letters; spelled = spelled; ended = ended }
  where
    -- the cell j cells to the right of the head, where that is k or further on
    far : (j m : ℕ) → j ≡ length y + m → cell d.tape (d.tape.head +ℤ pos (suc j)) ≡ get_or word (k + m) 0
    far j m e =
        let there : d.tape.head ≡ c.tape.head = a.head in
        let place : (d.tape.head +ℤ pos (suc j)) ≡ pos (suc (k + m)) = omega (arith, ints) in
        let beyond : pos i ≤ℤ pos (suc (k + m)) = omega (arith, ints) in
        ap (cell d.tape) place ∙ word_beyond anywhere p word i d (pos (suc (k + m))) beyond run

    all_letters : (j : ℕ) → j < length (y ++ drop k word) → slice_index (y ++ drop k word) j ≢ 0
    all_letters = both_letters y (drop k word) out.letters (λ j h e.
        let inside : k + j < length word = omega (arith, length-drop k word) in
        letters (k + j) inside (sym (get_or-drop k word j 0) ∙ e))

    spelled : (j : ℕ) → j < length (y ++ drop k word) → cell d.tape (d.tape.head +ℤ pos (suc j))
        ≡ slice_index (y ++ drop k word) j
    spelled j h = by_place (cases_lt j (length y))
      where
        by_place : (j < length y) ⊎ (length y ≤ j) → cell d.tape (d.tape.head +ℤ pos (suc j))
            ≡ slice_index (y ++ drop k word) j
        by_place (inl low) =
            let there : (d.tape.head +ℤ pos (suc j)) ≡ (c.tape.head +ℤ pos (suc j)) =
            ap (λ q. q +ℤ pos (suc j)) a.head in
            let inside : (c.tape.head +ℤ pos (suc j)) ≤ℤ pos k = omega (arith, ints) in
            ap (cell d.tape) there ∙ a.cells (c.tape.head +ℤ pos (suc j)) inside ∙ out.spelled j low
            ∙ sym (get_or_append_left y (drop k word) 0 j low)
        by_place (inr high) =
            let sum : j ≡ length y + (j - length y) = omega arith in
            far j (j - length y) sum ∙ sym (get_or-drop k word (j - length y) 0)
            ∙ sym (get_or-append_right y (drop k word) (length y) j 0 refl high)

    ended : cell d.tape (d.tape.head +ℤ pos (suc (length (y ++ drop k word)))) ≡ 0
    ended =
        let sum : length (y ++ drop k word) ≡ length y + length (drop k word) = length-append y (drop k word) in
        far (length (y ++ drop k word)) (length (drop k word)) sum
        ∙ get_or_past word (k + length (drop k word)) 0 (omega (arith, length-drop k word))
