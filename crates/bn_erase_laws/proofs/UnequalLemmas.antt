-- Where a run of the erasing machine is stuck because the second machine's output isn't the first one's input.
use Rattle.std.specs.Prelude.{◌≡◌, ◌≢◌, ℕ, zero, suc, ◌+◌, ◌*◌, ◌<◌, ◌≤◌, List, [], ◌∷◌, length, All, Some, None}
use Rattle.std.specs.Prelude.{slice_get, slice_index}
use Rattle.std.specs.Option.{unwrap_or}
use Rattle.std.proofs.Common.{refl, sym, ap, ◌∙◌, subst, arith, get_or, inl, inr}
use Rattle.std.proofs.lemmas.Bool.{cases_lt}
use Rattle.std.proofs.lemmas.Bool.Decides.{eqb_tells}
use Rattle.std.proofs.lemmas.List.{get_or_past}
use Rattle.std.proofs.lemmas.Option.{slice_get-get_or, slice_get_past, unwrap_or-slice_get}
use Rattle.bn_lists.specs.Runs.{Reaches}
use Rattle.bn_lists.proofs.RunsLemmas.{runs_join}
use Rattle.bn_machine.specs.Tape.{Tape, scanned, ahead}
use Rattle.bn_machine.proofs.TapeLemmas.{scanned-ahead}
use Rattle.bn_machine.specs.Window.{anywhere}
use Rattle.bn_machine.specs.Machine.{Program, start_of}
use Rattle.bn_machine.specs.Run.{IsOutput}
use Rattle.bn_quad.specs.Quadruples.{Configuration, everywhere}
use Rattle.bn_bennett_laws.specs.Renamed.{in_state}
use Rattle.bn_bennett_laws.specs.Stages.{IsStandardMachine, IsSpelledBy, beginning, copying, ending}
use Rattle.bn_bennett_laws.specs.Steps.{Steps}
use Rattle.bn_bennett_laws.specs.Laws.{HaltsAfter}
use Rattle.bn_bennett_laws.proofs.Halted.{halted_is_ready}
use Rattle.bn_bennett_laws.proofs.Theorem.{bennetts_theorem}
use Rattle.bn_bennett_laws.specs.declared.name.Name.TheVariants.{Compute, GoLeft}
use Rattle.bn_erase_laws.specs.declared.name.ErasingName.{ErasingName}
use Rattle.bn_erase_laws.specs.declared.name.ErasingName.TheVariants.{Second}
use Rattle.bn_erase_laws.specs.Lists.{exchanged_tapes}
use Rattle.bn_erase_laws.specs.Erasing.{second_name, second_half, erasing_final, IsWord, StepsBackOf}
use Rattle.bn_erase_laws.specs.Outcome.{Stuck, sticks, HasErasingOutcome}
use Rattle.bn_erase_laws.specs.ErasingLaws.{PartAt, UnequalWordsPart, UnequalOutputsStop}
use Rattle.bn_erase_laws.proofs.ComparedLemmas.{differing_back, passes_from_halted, computed}
use Rattle.bn_erase_laws.proofs.TheoremLemmas.{middle_as_second, first_forth, second_forth, output_letters}
use Rattle.bn_erase_laws.proofs.SticksLemmas.{none_second, run_of_halves}

-- ---- where two words part

one_letter_more : (a b : ℕ) (x z : List ℕ) (k : ℕ) → a ≡ b → PartAt x z k → PartAt (a ∷ x) (b ∷ z) (suc k)
one_letter_more a b x z k same h = record { agree = agree; differ = h.differ }
  where
    agree : (j : ℕ) → j < suc k → slice_get (a ∷ x) j ≡ slice_get (b ∷ z) j
    agree zero low = ap Some same
    agree (suc j) low = h.agree j (omega arith)

part_somewhere : (x z : List ℕ) → x ≢ z → (k : ℕ) × PartAt x z k
part_somewhere [] [] apart = absurd (apart refl)
part_somewhere [] (b ∷ z) apart = (0, record { agree = λ j low. absurd (omega arith); differ = λ e. cc })
part_somewhere (a ∷ x) [] apart = (0, record { agree = λ j low. absurd (omega arith); differ = λ e. cc })
part_somewhere (a ∷ x) (b ∷ z) apart =
    elim (eqb_tells a b) [
      | inl same ↦
          let rest = part_somewhere x z (λ e. apart (λ i. same.1 i ∷ e i)) in
          (suc rest.0, one_letter_more a b x z rest.0 same.1 rest.1)
      | inr other ↦ (0, record { agree = λ j low. absurd (omega arith); differ = λ e. other.1 (cc) })
    ]

pub unequal_words_part : UnequalWordsPart
unequal_words_part x z = (part_somewhere x z, λ h e. h.1.differ (ap (λ word. slice_get word h.0) e))

other_way : (x z : List ℕ) (k : ℕ) → PartAt x z k → PartAt z x k
other_way x z k h = record { agree = λ j low. sym (h.agree j low); differ = λ e. h.differ (sym e) }

none_past : (z : List ℕ) (i : ℕ) → slice_get z i ≡ None → length z ≤ i
none_past z i e =
    elim (cases_lt i (length z)) [
      | inl low ↦ let some : slice_get z i ≡ Some (get_or z i 0) = slice_get-get_or z i 0 low in absurd (cc)
      | inr high ↦ high
    ]

-- neither word ends before
part_within : (x z : List ℕ) (k : ℕ) → PartAt x z k → k ≤ length x
part_within x z k h =
    elim (cases_lt (length x) k) [
      | inl low ↦
          let ended : slice_get z (length x) ≡ None = sym (h.agree (length x) low)
          ∙ slice_get_past x (length x) (omega arith) in
          let short : length z ≤ length x = none_past z (length x) ended in
          absurd (h.differ (slice_get_past x k (omega arith) ∙ sym (slice_get_past z k (omega arith))))
      | inr high ↦ high
    ]

-- a letter, or the blank past the end
same_letter : (x z : List ℕ) (j : ℕ) → slice_get x j ≡ slice_get z j → get_or z j 0 ≡ get_or x j 0
same_letter x z j e = sym (unwrap_or-slice_get z j 0) ∙ ap (λ o. unwrap_or o 0) (sym e) ∙ unwrap_or-slice_get x j 0

-- in words the blank is none of the letters, so that they differ there
letters_differ : (x z : List ℕ) (k : ℕ) → IsWord x → ((i : ℕ) → i < length z → slice_index z i ≢ 0)
    → slice_get x k ≢ slice_get z k → get_or z k 0 ≢ get_or x k 0
letters_differ x z k word other differ e =
    elim (cases_lt k (length x)) [
      | inl one ↦ elim (cases_lt k (length z)) [
        | inl two ↦ differ (slice_get-get_or x k 0 one ∙ ap Some (sym e) ∙ sym (slice_get-get_or z k 0 two))
        | inr past ↦ word k 0 one (sym e ∙ get_or_past z k 0 past)
      ]
      | inr past ↦ elim (cases_lt k (length z)) [
        | inl two ↦ other k two (e ∙ get_or_past x k 0 past)
        | inr both ↦ differ (slice_get_past x k past ∙ sym (slice_get_past z k both))
      ]
    ]

-- what an output's tape holds at its letters and just behind them
on_tape : (t : Tape) (z : List ℕ) → IsOutput t z → (j : ℕ) → j ≤ length z → scanned (ahead (suc j) t) ≡ get_or z j 0
on_tape t z out j low =
    elim (cases_lt j (length z)) [
      | inl inside ↦ out.spelled j inside
      | inr past ↦
          let there : length z ≡ j = omega arith in
          let ended : scanned (ahead (suc (length z)) t) ≡ 0 = out.ended in
          subst (λ i. scanned (ahead (suc i) t) ≡ 0) there ended ∙ sym (get_or_past z j 0 past)
    ]

-- ---- the law

module _ (p q : Program) (left : IsStandardMachine p) (right : IsStandardMachine q) (x : List ℕ)
    (same : p.symbols ≡ q.symbols) (letters : IsSpelledBy p x) (word : IsWord x) where
  -- the second half's steps to where the words part, before its tapes are exchanged
  second_steps : (v w : ℕ) (y z : List ℕ) → HaltsAfter p x v y → (h : HaltsAfter q y w z) → (k : ℕ) → PartAt x z k
      → (ns : List ℕ) × Reaches (StepsBackOf q everywhere) (2 * w + 2 * k + 2) (ending q y x)
      (copying GoLeft h.moment ns x (suc k))
  second_steps v w y z halted h k part =
      let spelled = output_letters p q left right x y v same letters halted in
      let found = computed q y x right spelled w h.moment h.run in
      let ready = halted_is_ready q anywhere y found.0 z h.moment right spelled found.1 h.final h.output in
      let longer : k ≤ length z = part_within z x k (other_way x z k part) in
      let passed =
      passes_from_halted q h.moment found.0 x ready.last (subst (λ s. All (λ a. a < s) x) same letters) word h.final
      ready.blank k (part_within x z k part)
      (λ j low. on_tape h.moment.tape z h.output j (omega arith) ∙ same_letter x z j (part.agree j low)) in (
        found.0,
        runs_join (StepsBackOf q everywhere) (2 * w + 2 * k + 2) (2 * w) (2 * k + 2) _ _ _ (omega arith) found.2 passed,
      )

  unequal_stuck : (v w : ℕ) (y z : List ℕ) → HaltsAfter p x v y → HaltsAfter q y w z → (k : ℕ) → PartAt x z k
      → (n : ℕ) → 4 * v + 4 * length y + 2 * w + 2 * k + 7 ≤ n → HasErasingOutcome p q x n
      (4 * v + 4 * length y + 2 * w + 2 * k + 7) (Stuck (Second GoLeft))
  unequal_stuck v w y z halted h k part n low =
      let steps = second_steps v w y z halted h k part in
      let there = copying GoLeft h.moment steps.0 x (suc k) in
      let last : Configuration ErasingName = in_state (second_name p q) (exchanged_tapes there) in
      let first = first_forth p q left right (4 * v + 4 * length y + 5) (beginning p x) (ending p x y)
      ((bennetts_theorem p x left letters).0 v y halted) in
      let second = second_forth p q left right (2 * w + 2 * k + 2) (ending q y x) there steps.1 in
      let longer : k ≤ length z = part_within z x k (other_way x z k part) in
      let scans : scanned (ahead (suc k) h.moment.tape) ≡ get_or z k 0 = on_tape h.moment.tape z h.output k longer in
      record {
        moment = last;
        run = run_of_halves p q left right (4 * v + 4 * length y + 2 * w + 2 * k + 7) (4 * v + 4 * length y + 5)
            (2 * w + 2 * k + 2) x _ last (omega arith) first (subst
            (λ d. Reaches (Steps everywhere (second_half p q) (erasing_final q)) (2 * w + 2 * k + 2) d last)
            (sym (middle_as_second p q left right x y)) second);
        in_time = low;
        ends = sticks (λ e. let name : Second GoLeft ≡ Second (Compute (start_of q.quints)) = e in cc)
            (none_second p q left right there (differing_back q h.moment steps.0 x k
            (λ e. letters_differ x z k word h.output.letters part.differ (sym scans ∙ e ∙ scanned-ahead x k))))
            refl;
      }

pub unequal_outputs_stop : UnequalOutputsStop
unequal_outputs_stop p q x left right same letters word v w y z halted h k part n low =
    unequal_stuck p q left right x same letters word v w y z halted h k part n low
