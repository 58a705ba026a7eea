-- The erasing machine comes to its end exactly where both machines halt, each with the other's word.
use Rattle.std.specs.Prelude.{◌≡◌, ℕ, ◌+◌, ◌*◌, ◌<◌, List, [], length, All}
use Rattle.std.proofs.Common.{refl, sym, ap, ◌∙◌, subst, arith}
use Rattle.bn_lists.specs.Runs.{Reaches}
use Rattle.bn_machine.specs.Tape.{blank_tape}
use Rattle.bn_machine.specs.Window.{anywhere}
use Rattle.bn_machine.specs.Machine.{Program, start}
use Rattle.bn_machine.proofs.MachineStepLemmas.{run_follows}
use Rattle.bn_quad.specs.Quadruples.{Rule, Configuration, turned_list, everywhere}
use Rattle.bn_quad.proofs.ReversibleLemmas.{same_configuration}
use Rattle.bn_lists.specs.Lists.{IsIn}
use Rattle.bn_bennett_laws.proofs.MembershipLemmas.{in_map}
use Rattle.bn_bennett_laws.specs.List.{bennett, initial_name, final_name}
use Rattle.bn_bennett_laws.specs.Names.{states_in}
use Rattle.bn_bennett_laws.specs.Renamed.{renamed, in_state}
use Rattle.bn_bennett_laws.proofs.RenamedLemmas.{run_renamed, run_before}
use Rattle.bn_bennett_laws.specs.Stages.{IsStandardMachine, IsSpelledBy, history, beginning, ending, StepsOf}
use Rattle.bn_bennett_laws.specs.Steps.{Steps}
use Rattle.bn_bennett_laws.specs.Laws.{HaltsAfter}
use Rattle.bn_bennett_laws.proofs.Counts.{list_has_ends}
use Rattle.bn_bennett_laws.proofs.Halted.{halted_is_ready}
use Rattle.bn_bennett_laws.proofs.Tapes.{ahead_none}
use Rattle.bn_bennett_laws.proofs.Theorem.{bennetts_theorem}
use Rattle.bn_bennett_laws.specs.declared.name.Name.{Name}
use Rattle.bn_erase_laws.specs.declared.name.ErasingName.{ErasingName}
use Rattle.bn_erase_laws.specs.declared.name.ErasingName.TheVariants.{First}
use Rattle.bn_erase_laws.specs.Lists.{exchanged_tapes}
use Rattle.bn_erase_laws.specs.Erasing.{second_name, first_half, backward, second_half, erasing_initial, erasing_middle}
use Rattle.bn_erase_laws.specs.Erasing.{erasing_final, IsWord, erasing_start, erasing_end, ErasingSteps, StepsBackOf}
use Rattle.bn_erase_laws.proofs.ExchangedLemmas.{run_exchanged, run_exchanged_back}
use Rattle.bn_erase_laws.proofs.JoinedLemmas.{joined_run, joined_halves}
use Rattle.bn_erase_laws.proofs.ErasingLemmas.{first_apart, second_apart, second_once, second_final, halves_join}
use Rattle.bn_erase_laws.proofs.ErasingLemmas.{initial_in, final_in, back_initial_in, back_final_in}
use Rattle.bn_erase_laws.proofs.ComparedLemmas.{compares_forth, compares_back}
use Rattle.bn_erase_laws.specs.ErasingLaws.{ErasesInput}

-- a history of no steps is blank
history_none : history [] ≡ blank_tape
history_none = ahead_none blank_tape

module _ (p q : Program) (left : IsStandardMachine p) (right : IsStandardMachine q) where
  -- ---- the configurations where the halves begin and end

  pub start_as_first : (x : List ℕ) → in_state First (beginning p x) ≡ erasing_start p x
  start_as_first x = same_configuration _ _ refl refl history_none refl

  pub middle_as_second : (x y : List ℕ) → in_state First (ending p x y)
      ≡ in_state (second_name p q) (exchanged_tapes (ending q y x))
  middle_as_second x y = same_configuration _ _ (sym (second_final p q)) refl refl refl

  end_as_second : (y : List ℕ) → in_state (second_name p q) (exchanged_tapes (beginning q y)) ≡ erasing_end q y
  end_as_second y = same_configuration _ _ refl refl history_none refl

  -- ---- runs of the halves

  -- a run of the first reversible machine is one of the first half
  pub first_forth : (n : ℕ) (c d : Configuration Name) → Reaches (StepsOf p everywhere) n c d
      → Reaches (Steps everywhere (first_half p) (erasing_middle p)) n (in_state First c) (in_state First d)
  unfolding first_half
  first_forth n c d run = run_renamed First (bennett p) (first_apart (bennett p)) everywhere (final_name p)
      (final_in p left.machine.some) n c d run

  first_back : (n : ℕ) (c : Configuration Name) (e : Configuration ErasingName) → IsIn (states_in (bennett p)) c.state
      → Reaches (Steps everywhere (first_half p) (erasing_middle p)) n (in_state First c) e
      → (d : Configuration Name) × Reaches (StepsOf p everywhere) n c d × (e ≡ in_state First d)
  unfolding first_half
  first_back n c e here run = let found = run_before First (bennett p) (first_apart (bennett p)) everywhere
      (final_name p) (final_in p left.machine.some) n c e here run in (found.0, found.1, found.2)

  -- a run of the second reversible machine backward is one of the second half, its tapes exchanged
  pub second_forth : (n : ℕ) (c d : Configuration Name) → Reaches (StepsBackOf q everywhere) n c d
      → Reaches (Steps everywhere (second_half p q) (erasing_final q)) n
      (in_state (second_name p q) (exchanged_tapes c)) (in_state (second_name p q) (exchanged_tapes d))
  unfolding second_half
  second_forth n c d run =
      run_renamed (second_name p q) (backward q) (second_apart p q (backward q)) everywhere (initial_name q)
      (back_final_in q right.machine.some) n (exchanged_tapes c) (exchanged_tapes d)
      (run_exchanged (turned_list (bennett q)) (initial_name q) everywhere n c d run)

  second_back : (n : ℕ) (c : Configuration Name) (e : Configuration ErasingName) → IsIn (states_in (backward q)) c.state
      → Reaches (Steps everywhere (second_half p q) (erasing_final q)) n
      (in_state (second_name p q) (exchanged_tapes c)) e → (d : Configuration Name)
      × Reaches (StepsBackOf q everywhere) n c d × (e ≡ in_state (second_name p q) (exchanged_tapes d))
  unfolding second_half
  second_back n c e here run =
      let found = run_before (second_name p q) (backward q) (second_apart p q (backward q)) everywhere (initial_name q)
      (back_final_in q right.machine.some) n (exchanged_tapes c) e here run in (
        exchanged_tapes found.0,
        run_exchanged_back (turned_list (bennett q)) (initial_name q) everywhere n c (exchanged_tapes found.0) found.1,
        found.2,
      )

  -- the output of the first machine is a word of the second one's letters
  pub output_letters : (x y : List ℕ) (v : ℕ) → p.symbols ≡ q.symbols → IsSpelledBy p x → HaltsAfter p x v y
      → IsSpelledBy q y
  output_letters x y v same letters h =
      let ns = run_follows anywhere p v (start p x) h.moment h.run in
      let ready = halted_is_ready p anywhere x ns.0 y h.moment left letters ns.2 h.final h.output in
      subst (λ z. All (λ s. s < z) y) same ready.letters

  module _ (x : List ℕ) (same : p.symbols ≡ q.symbols) (letters : IsSpelledBy p x) where
    -- ---- from the start to the end

    pub erases_forth : (v w : ℕ) (y : List ℕ) → HaltsAfter p x v y → HaltsAfter q y w x
        → Reaches (ErasingSteps p q) (4 * (v + w) + 4 * (length x + length y) + 10) (erasing_start p x)
        (erasing_end q y)
    erases_forth v w y h k =
        let first = first_forth (4 * v + 4 * length y + 5) (beginning p x) (ending p x y)
        ((bennetts_theorem p x left letters).0 v y h) in
        let second = second_forth (4 * w + 4 * length x + 5) (ending q y x) (beginning q y)
        (compares_forth q y x right (output_letters x y v same letters h) w k) in
        let joined =
        joined_run (erasing_middle p) (erasing_initial p) (erasing_final q) (first_half p) (second_half p q)
        (halves_join p q left.standard right.standard) everywhere
        (4 * (v + w) + 4 * (length x + length y) + 10) (4 * v + 4 * length y + 5) (4 * w + 4 * length x + 5) _ _ _
        (omega arith)
        first (subst (λ c. Reaches (Steps everywhere (second_half p q) (erasing_final q)) (4 * w + 4 * length x + 5) c
        (in_state (second_name p q) (exchanged_tapes (beginning q y)))) (sym (middle_as_second x y)) second) in
        subst (λ c. Reaches (ErasingSteps p q) (4 * (v + w) + 4 * (length x + length y) + 10) c (erasing_end q y))
        (start_as_first x)
        (subst (λ d. Reaches (ErasingSteps p q) (4 * (v + w) + 4 * (length x + length y) + 10)
        (in_state First (beginning p x)) d) (end_as_second y) joined)

    -- ---- and in no other way

    abbrev Erased : ℕ → Configuration ErasingName → Type 0
    Erased n e = (v w : ℕ) × (y : List ℕ) × HaltsAfter p x v y × HaltsAfter q y w x
        × (n ≡ 4 * (v + w) + 4 * (length x + length y) + 10) × (e ≡ erasing_end q y)

    -- the second half, from where the first machine has halted
    second_part : IsWord x → (n i j v : ℕ) (y : List ℕ) (e : Configuration ErasingName) → HaltsAfter p x v y → n ≡ i + j
        → i ≡ 4 * v + 4 * length y + 5
        → Reaches (Steps everywhere (second_half p q) (erasing_final q)) j (in_state First (ending p x y)) e
        → e.state ≡ erasing_final q → Erased n e
    second_part word n i j v y e h sum count run is =
        let back = second_back j (ending q y x) e (back_initial_in q right.machine.some)
        (subst (λ c. Reaches (Steps everywhere (second_half p q) (erasing_final q)) j c e) (middle_as_second x y)
        run) in
        let named : second_name p q back.0.state ≡ second_name p q (initial_name q) =
        sym (ap (λ (c : Configuration ErasingName). c.state) back.2) ∙ is in
        let found = compares_back q y x right (output_letters x y v same letters h)
        (subst (λ z. All (λ s. s < z) x) same letters) word j back.0 back.1
        (second_once p q back.0.state (initial_name q) named) in
        let steps : j ≡ 4 * found.0 + 4 * length x + 5 = found.2 in (
          v,
          found.0,
          y,
          h,
          found.1,
          omega arith,
          back.2 ∙ ap (λ c. in_state (second_name p q) (exchanged_tapes c)) found.3 ∙ end_as_second y,
        )

    first_part : IsWord x → (n i j : ℕ) (d e : Configuration ErasingName) → n ≡ i + j → d.state ≡ erasing_middle p
        → Reaches (Steps everywhere (first_half p) (erasing_middle p)) i (erasing_start p x) d
        → Reaches (Steps everywhere (second_half p q) (erasing_final q)) j d e → e.state ≡ erasing_final q → Erased n e
    first_part word n i j d e sum middle first second is =
        let back = first_back i (beginning p x) d (initial_in p left.machine.some)
        (subst (λ c. Reaches (Steps everywhere (first_half p) (erasing_middle p)) i c d) (sym (start_as_first x))
        first) in
        let named : First back.0.state ≡ First (final_name p) = sym
        (ap (λ (c : Configuration ErasingName). c.state) back.2) ∙ middle in
        let found = (bennetts_theorem p x left letters).1 i back.0 back.1 (cc) in
        second_part word n i j found.0 found.1 e found.2 sum found.3
        (subst (λ c. Reaches (Steps everywhere (second_half p q) (erasing_final q)) j c e)
        (back.2 ∙ ap (in_state First) found.4) second) is

    first_rule : (r : Rule ErasingName) × IsIn (first_half p) r × (r.from ≡ erasing_initial p)
    unfolding first_half
    first_rule =
        let first = (list_has_ends p left.machine.some).0 in (
          renamed First first.0,
          in_map (renamed First) (bennett p) first.0 (record { place = 1; stands = first.1 }),
          ap First first.2,
        )

    pub erases_back : IsWord x → (n : ℕ) (e : Configuration ErasingName)
        → Reaches (ErasingSteps p q) n (erasing_start p x) e → e.state ≡ erasing_final q → Erased n e
    erases_back word n e run is =
        let halves =
        joined_halves (erasing_middle p) (erasing_initial p) (erasing_final q) (first_half p) (second_half p q)
        (halves_join p q left.standard right.standard)
        first_rule.0 first_rule.1 first_rule.2 everywhere n (erasing_start p x) e refl run is in
        first_part word n halves.i halves.j halves.meeting e halves.sum halves.meets halves.first halves.second is

pub erases_input : ErasesInput
erases_input p q x left right same letters word = (
  erases_forth p q left right x same letters,
  erases_back p q left right x same letters word,
)
