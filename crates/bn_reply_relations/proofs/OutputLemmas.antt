-- The output that tape 3 shows, and what a run that halts has beside its output.
use Rattle.std.specs.Prelude.{◌≡◌, ◌≢◌, ℕ, ◌+◌, ◌<◌, ◌≤◌, pos, ◌-ℤ◌, List, [], ◌∷◌, length, map, drop, Option, Some}
use Rattle.std.specs.Prelude.{slice_index, refl}
use Rattle.std.specs.List.{range_with_len}
use Rattle.std.proofs.Common.{zero, suc, arith, sym, ap, subst, ◌∙◌}
use Rattle.std.proofs.lemmas.Int.{ints}
use Rattle.std.proofs.lemmas.List.{get_or_past}
use Rattle.bn_machine.specs.Tape.{cell, word_tape}
use Rattle.bn_machine.proofs.TapeLemmas.{cell-word}
use Rattle.bn_machine.specs.Machine.{Program, Moment}
use Rattle.bn_machine.specs.Outcome as outcome
use Rattle.bn_machine.specs.Outcome.{Limits, HasOutcome, ComesOut, halts, sticks, runs_out, leaves, copied, work_short}
use Rattle.bn_machine.specs.Outcome.{output_short}
use Rattle.bn_boards.specs.Layouts.{tape_in}
use Rattle.bn_reply_relations.specs.RunText.{output_from}

blank_first : (v : ℕ) (cs : List (Option ℕ)) → v ≡ 0 → output_from (Some v ∷ cs) ≡ []
blank_first zero cs e = refl
blank_first (suc v) cs e = absurd (omega arith)

letter_first : (v w : ℕ) (cs : List (Option ℕ)) → v ≡ w → w ≢ 0 → output_from (Some v ∷ cs) ≡ w ∷ output_from cs
letter_first zero w cs e some = absurd (some (sym e))
letter_first (suc v) w cs e some = ap (λ x. x ∷ output_from cs) e

-- cells that show letters and then a blank show this output
output_shown : (g : ℕ → ℕ) (y : List ℕ) (a n : ℕ) → length y ≤ n
    → ((k : ℕ) → k < length y → g (a + k) ≡ slice_index y k) →
    ((k : ℕ) → k < length y → slice_index y k ≢ 0) → g (a + length y) ≡ 0
    → output_from (map (λ j. Some (g j)) (range_with_len a n)) ≡ y
output_shown g [] a zero within each some blank = refl
output_shown g [] a (suc n) within each some blank =
    let here : a ≡ a + 0 = omega arith in
    blank_first (g a) (map (λ j. Some (g j)) (range_with_len (a + 1) n)) (ap g here ∙ blank)
output_shown g (y ∷ ys) a zero within each some blank = absurd (omega arith)
output_shown g (y ∷ ys) a (suc n) within each some blank =
    let here : a ≡ a + 0 = omega arith in
    let first : 0 < length (y ∷ ys) = omega arith in
    let behind : a + 1 + length ys ≡ a + length (y ∷ ys) = omega arith in
    letter_first (g a) y (map (λ j. Some (g j)) (range_with_len (a + 1) n)) (ap g here ∙ each 0 first) (some 0 first)
    ∙ ap (λ zs. y ∷ zs) (output_shown g ys (a + 1) n (omega arith) (λ k low. later k low)
    (λ k low. some (suc k) (omega arith)) (ap g behind ∙ blank))
  where
    later : (k : ℕ) → k < length ys → g (a + 1 + k) ≡ slice_index ys k
    later k low =
        let next : a + 1 + k ≡ a + suc k = omega arith in
        let inside : suc k < length (y ∷ ys) = omega arith in
        ap g next ∙ each (suc k) inside

-- the output on tape 3 is read off its cells
pub output-read : (l : Limits) (y : List ℕ) → length y ≤ l.output → ((k : ℕ) → k < length y → slice_index y k ≢ 0) →
    output_from (drop 1 (tape_in 0 (l.output + 1) (word_tape y)).cells) ≡ y
output-read l y within some =
    let more : l.output + 1 ≡ suc l.output = omega arith in
    ap (λ n. output_from (drop 1 (map (λ j. Some (shown j)) (range_with_len 0 n)))) more
    ∙ output_shown shown y 1 l.output within each some (at (length y) ∙ get_or_past y (length y) 0 (omega arith))
  where
    shown : ℕ → ℕ
    shown j = cell (word_tape y) (pos j -ℤ pos 0)

    at : (k : ℕ) → shown (1 + k) ≡ slice_index y k
    at k =
        let there : pos (1 + k) -ℤ pos 0 ≡ pos (suc k) = omega (arith, ints) in
        ap (λ q. cell (word_tape y) q) there ∙ cell-word y (pos (suc k))

    each : (k : ℕ) → k < length y → shown (1 + k) ≡ slice_index y k
    each k low = at k

-- a run that halts has an output without blanks, for which tape 3 has room
pub halted_fits : (p : Program) (word : List ℕ) (l : Limits) (i : ℕ) (y : List ℕ)
    → HasOutcome p word l i (outcome.Halted y) →
    (length y ≤ l.output) × ((k : ℕ) → k < length y → slice_index y k ≢ 0)
halted_fits p word l i y h = by_end h.moment h.ends
  where
    by_end : (c : Moment) → ComesOut p l i c (outcome.Halted y)
        → (length y ≤ l.output) × ((k : ℕ) → k < length y → slice_index y k ≢ 0)
    by_end c (sticks stuck is) = absurd (cc)
    by_end c (runs_out d goes at is) = absurd (cc)
    by_end c (leaves d side goes low beyond is) = absurd (cc)
    by_end c (halts z final output (work_short j first short is)) = absurd (cc)
    by_end c (halts z final output (output_short j first room short is)) = absurd (cc)
    by_end c (halts z final output (copied room is)) =
        let same : z ≡ y = cc in
        let far = (room (length z + 1) (omega arith) (omega arith)).output in (
          subst (λ w. length w ≤ l.output) same (omega arith),
          subst (λ (w : List ℕ). (k : ℕ) → k < length w → slice_index w k ≢ 0) same output.letters,
        )
