-- A bounded run of the erasing machine comes out in exactly one way, and halts exactly where both machines do.
use Rattle.std.specs.Prelude.{◌≡◌, ℕ, ◌+◌, ◌*◌, ◌<◌, ◌≤◌, ◌⊎◌, List, [], length}
use Rattle.std.proofs.Common.{refl, sym, ap, ◌∙◌, subst, arith, inl, inr}
use Rattle.std.proofs.lemmas.Bool.{cases_lt}
use Rattle.bn_lists.specs.Runs.{Reaches, IsFunction}
use Rattle.bn_lists.proofs.RunsLemmas.{runs_end_once}
use Rattle.bn_machine.specs.Tape.{word_tape, blank_tape}
use Rattle.bn_machine.proofs.TapeLemmas.{scanned-ahead}
use Rattle.bn_machine.specs.Machine.{Program}
use Rattle.bn_machine.specs.Run.{IsOutput}
use Rattle.bn_machine.proofs.OutputLemmas.{output_once, output_exists}
use Rattle.bn_machine.proofs.OutcomeLemmas.{run_goes_on}
use Rattle.bn_quad.specs.Quadruples.{Configuration, HasNoRule, everywhere}
use Rattle.bn_bennett_laws.proofs.StageStepLemmas.{steps_once}
use Rattle.bn_bennett_laws.specs.Stages.{IsStandardMachine, IsSpelledBy}
use Rattle.bn_bennett_laws.specs.Laws.{HaltsAfter}
use Rattle.bn_bennett_laws.proofs.Tapes.{scanned-past}
use Rattle.bn_erase_laws.specs.declared.name.ErasingName.{ErasingName}
use Rattle.bn_erase_laws.specs.Erasing.{erasing, erasing_start, erasing_end, erasing_final, IsWord, ErasingSteps}
use Rattle.bn_erase_laws.specs.Outcome.{ErasingOutcome, Halted, Stuck, Running, rewound, ErasingComesOut, halts, sticks}
use Rattle.bn_erase_laws.specs.Outcome.{runs, HasErasingOutcome}
use Rattle.bn_erase_laws.specs.ErasingLaws.{OutcomeIsOne, OutcomeExists, HaltsExactly}
use Rattle.bn_erase_laws.proofs.ErasingLemmas.{erasing_passes_tests}
use Rattle.bn_erase_laws.proofs.TheoremLemmas.{erases_forth, erases_back}
use Rattle.bn_erase_laws.proofs.DecidedLemmas.{same_erasing_name, Next, is_final, has_none, steps_on, Bounded, bounded}

-- ---- one way

module _ (p q : Program) where
  none_goes : (c d : Configuration ErasingName) → HasNoRule (erasing p q) c → ErasingSteps p q c d → ⊥
  none_goes c d none s = none.none s.follows.number s.follows.leads.rule s.follows.leads.stands
      s.follows.leads.leads.applies

  -- where a run has come out before all n steps no step leads on
  none_after : (n i : ℕ) (c d : Configuration ErasingName) (o : ErasingOutcome) → i < n → ErasingComesOut p q n i c o
      → ErasingSteps p q c d → ⊥
  none_after n i c d o low (halts work output final one three why) s = s.going final
  none_after n i c d o low (sticks going none why) s = none_goes c d none s
  none_after n i c d o low (runs e goes all why) s = absurd (omega arith)

  comes_out_once : (n i : ℕ) (c : Configuration ErasingName) (o u : ErasingOutcome) → ErasingComesOut p q n i c o
      → ErasingComesOut p q n i c u → o ≡ u
  comes_out_once n i c o u (halts work output final one three why) (halts work' output' final' one' three' why') =
      why ∙ (λ j. Halted (output_once (rewound c.one) work work' one one' j)
      (output_once (rewound c.three) output output' three three' j)) ∙ sym why'
  comes_out_once n i c o u (halts work output final one three why) (sticks going none why') = absurd (going final)
  comes_out_once n i c o u (halts work output final one three why) (runs d goes all why') = absurd (goes.going final)
  comes_out_once n i c o u (sticks going none why) (halts work output final one three why') = absurd (going final)
  comes_out_once n i c o u (sticks going none why) (sticks going' none' why') = why ∙ sym why'
  comes_out_once n i c o u (sticks going none why) (runs d goes all why') = absurd (none_goes c d none goes)
  comes_out_once n i c o u (runs d goes all why) (halts work output final one three why') = absurd (goes.going final)
  comes_out_once n i c o u (runs d goes all why) (sticks going none why') = absurd (none_goes c d none goes)
  comes_out_once n i c o u (runs d goes all why) (runs d' goes' all' why') = why ∙ sym why'

pub outcome_is_one : OutcomeIsOne
outcome_is_one p q left right x n i j o u h k = by_order (cases_lt i j) (cases_lt j i)
  where
    only : IsFunction (ErasingSteps p q)
    only = steps_once everywhere (erasing p q) (erasing_final q) (erasing_passes_tests p q left right).0

    by_order : (i < j) ⊎ (j ≤ i) → (j < i) ⊎ (i ≤ j) → (i ≡ j) × (o ≡ u)
    by_order (inl low) other =
        let more = run_goes_on (ErasingSteps p q) only i j (erasing_start p x) h.moment k.moment low h.run k.run in
        let high : j ≤ n = k.in_time in
        absurd (none_after p q n i h.moment more.0 o (omega arith) h.ends more.1)
    by_order (inr high) (inl low) =
        let more = run_goes_on (ErasingSteps p q) only j i (erasing_start p x) k.moment h.moment low k.run h.run in
        let high : i ≤ n = h.in_time in
        absurd (none_after p q n j k.moment more.0 u (omega arith) k.ends more.1)
    by_order (inr high) (inr low) =
        let count : i ≡ j = omega arith in
        let there : h.moment ≡ k.moment = runs_end_once (ErasingSteps p q) only j (erasing_start p x) h.moment k.moment
        (subst (λ m. Reaches (ErasingSteps p q) m (erasing_start p x) h.moment) count h.run) k.run in (
          count,
          comes_out_once p q n j k.moment o u (subst (λ c. ErasingComesOut p q n j c o) there
              (subst (λ m. ErasingComesOut p q n m h.moment o) count h.ends)) k.ends,
        )

-- ---- some way

-- what a bounded run comes to
outcome_of : (p q : Program) (x : List ℕ) (n : ℕ) (b : Bounded same_erasing_name (erasing p q) (erasing_final q) n
    (erasing_start p x)) → Next same_erasing_name (erasing p q) (erasing_final q) b.last
    → (i : ℕ) × (o : ErasingOutcome) × HasErasingOutcome p q x n i o
outcome_of p q x n b (is_final is) =
    let work = output_exists (rewound b.last.one) in
    let output = output_exists (rewound b.last.three) in (
      b.made,
      Halted work.0 output.0,
      record {
        moment = b.last;
        run = b.run;
        in_time = b.in_time;
        ends = halts work.0 output.0 is work.1 output.1 refl;
      },
    )
outcome_of p q x n b (has_none going none) = (
  b.made,
  Stuck b.last.state,
  record { moment = b.last; run = b.run; in_time = b.in_time; ends = sticks going none refl },
)
outcome_of p q x n b (steps_on d s) = (
  b.made,
  Running,
  record { moment = b.last; run = b.run; in_time = b.in_time; ends = runs d s (b.all d s) refl },
)

pub outcome_exists : OutcomeExists
outcome_exists p q x n =
    let b = bounded same_erasing_name (erasing p q) (erasing_final q) n (erasing_start p x) in
    outcome_of p q x n b b.next

-- ---- halting

-- a word without blanks is what its tape spells
spells_word : (y : List ℕ) → IsWord y → IsOutput (word_tape y) y
spells_word y word = record {
  letters = λ k low. word k 0 low;
  spelled = λ k low. scanned-ahead y k;
  ended = scanned-past y (length y) refl;
}

spells_none : IsOutput blank_tape []
spells_none = spells_word [] (λ k d low. absurd (omega arith))

-- the output of a machine is a word
output_word : (p : Program) (x y : List ℕ) (v : ℕ) → HaltsAfter p x v y → IsOutput (word_tape y) y
output_word p x y v h = record {
  letters = h.output.letters;
  spelled = λ k low. scanned-ahead y k;
  ended = scanned-past y (length y) refl;
}

module _ (p q : Program) (x : List ℕ) (left : IsStandardMachine p) (right : IsStandardMachine q)
    (same : p.symbols ≡ q.symbols) (letters : IsSpelledBy p x) (word : IsWord x) where
  abbrev Halt : ℕ → ℕ → List ℕ → List ℕ → Type 0
  Halt n i work y = (v w : ℕ) × (i ≤ n) × (work ≡ []) × HaltsAfter p x v y × HaltsAfter q y w x
      × (i ≡ 4 * (v + w) + 4 * (length x + length y) + 10)

  halts_back : (n i : ℕ) (work y : List ℕ) → Halt n i work y → HasErasingOutcome p q x n i (Halted work y)
  halts_back n i work y h =
      let v : ℕ = h.0 in
      let w : ℕ = h.1 in
      let run = erases_forth p q left right x same letters v w y h.4 h.5 in record {
        moment = erasing_end q y;
        run = subst (λ m. Reaches (ErasingSteps p q) m (erasing_start p x) (erasing_end q y)) (sym h.6) run;
        in_time = h.2;
        ends = halts [] y refl spells_none (output_word p x y v h.4) (ap (λ ws. Halted ws y) h.3);
      }

  halts_forth : (n i : ℕ) (work y : List ℕ) → HasErasingOutcome p q x n i (Halted work y) → Halt n i work y
  halts_forth n i work y h = by_end h.ends
    where
      by_end : ErasingComesOut p q n i h.moment (Halted work y) → Halt n i work y
      by_end (halts ws ys final one three why) =
          let found = erases_back p q left right x same letters word i h.moment h.run final in
          let at_end : h.moment ≡ erasing_end q found.2 = found.6 in
          let works : work ≡ ws = cc in
          let outputs : y ≡ ys = cc in
          let none : ws ≡ [] = output_once blank_tape ws [] (subst
          (λ (c : Configuration ErasingName). IsOutput (rewound c.one) ws) at_end one) spells_none in
          let all : ys ≡ found.2 = output_once (word_tape found.2) ys found.2
          (subst (λ (c : Configuration ErasingName). IsOutput (rewound c.three) ys) at_end three)
          (output_word p x found.2 found.0 found.3) in
          let output : found.2 ≡ y = sym all ∙ sym outputs in (
            found.0,
            found.1,
            h.in_time,
            works ∙ none,
            subst (HaltsAfter p x found.0) output found.3,
            subst (λ ys. HaltsAfter q ys found.1 x) output found.4,
            found.5 ∙ ap (λ ys. 4 * (found.0 + found.1) + 4 * (length x + length ys) + 10) output,
          )
      by_end (sticks going none why) = absurd (cc)
      by_end (runs d goes all why) = absurd (cc)

pub halts_exactly : HaltsExactly
halts_exactly p q x left right same letters word n i work y = (
  halts_forth p q x left right same letters word n i work y,
  halts_back p q x left right same letters word n i work y,
)
