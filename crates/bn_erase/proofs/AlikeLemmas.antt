-- The erasing machine over numbers makes the runs of its list over names.
use Rattle.std.specs.Prelude.{◌≡◌, ℕ, ◌+◌, ◌*◌, ◌<◌, List, length}
use Rattle.std.proofs.Common.{sym, ap, ◌∙◌, subst, arith}
use Rattle.bn_lists.specs.Runs.{Reaches}
use Rattle.bn_machine.specs.Machine.{Program}
use Rattle.bn_machine.specs.Tape.{blank_tape, word_tape}
use Rattle.bn_quad.specs.Quadruples.{Configuration, QuadruplesRunTo, everywhere, final_state_of, initial_of}
use Rattle.bn_lists.specs.Lists.{IsIn}
use Rattle.bn_bennett_laws.proofs.InsideLemmas.{begins_in, ends_in, state_below}
use Rattle.bn_bennett_laws.specs.Laws.{HaltsAfter}
use Rattle.bn_bennett_laws.specs.Names.{states_in}
use Rattle.bn_bennett_laws.specs.Renamed.{KeepsApart, in_state}
use Rattle.bn_bennett_laws.proofs.RenamedLemmas.{names_kept_apart}
use Rattle.bn_bennett_laws.specs.Stages.{IsSpelledBy, IsStandardMachine}
use Rattle.bn_bennett_laws.specs.declared.name.Name.TheVariants.{GoRight}
use Rattle.bn_erase_laws.specs.Erasing.{ErasingSteps, IsWord, erasing_end, erasing_final, erasing_initial}
use Rattle.bn_erase_laws.specs.Erasing.{erasing_start}
use Rattle.bn_erase_laws.specs.ErasingLaws.{ErasesInput, ErasingNumbersPassTests, ErasingNumbersRunAlike}
use Rattle.bn_erase_laws.specs.declared.name.ErasingName.{ErasingName}
use Rattle.bn_erase_laws.specs.declared.name.ErasingName.TheVariants.{First}
use Rattle.bn_erase.specs.Made.{Erasure, IsErasing, name_of}
use Rattle.bn_erase.specs.Laws.{end_of, start_of}

module _ (p q : Program) (e : Erasure) (h : IsErasing p q e) where
  pub names_apart : KeepsApart (name_of e) e.machine.rules
  names_apart = names_kept_apart (First GoRight) e.names e.machine.rules h.numbered.apart below
    where
      below : (k : ℕ) → IsIn (states_in e.machine.rules) k → k < length e.names
      below k there = let low = state_below e.machine h.machine k there in omega (arith, h.states)

  begins_inside : IsIn (states_in e.machine.rules) (initial_of e.machine.rules)
  begins_inside = begins_in e.machine h.machine

  ends_inside : IsIn (states_in e.machine.rules) (final_state_of e.machine.rules)
  ends_inside = ends_in e.machine h.machine

  module _ (left : IsStandardMachine p) (right : IsStandardMachine q) (tests : ErasingNumbersPassTests) where
    pub begins_named : name_of e (initial_of e.machine.rules) ≡ erasing_initial p
    begins_named = (tests p q left right (name_of e) e.machine.rules h.rules).3

    pub ends_named : name_of e (final_state_of e.machine.rules) ≡ erasing_final q
    ends_named = (tests p q left right (name_of e) e.machine.rules h.rules).4

    start_named : (x : List ℕ) → in_state (name_of e) (start_of e x) ≡ erasing_start p x
    start_named x = λ i. record { state = begins_named i; one = word_tape x; two = blank_tape; three = blank_tape }

    -- a configuration that is named as the end is the end
    same_end : (y : List ℕ) (d : Configuration ℕ) → IsIn (states_in e.machine.rules) d.state
        → in_state (name_of e) d ≡ erasing_end q y → d ≡ end_of e y
    same_end y d inside is =
        let state : d.state ≡ final_state_of e.machine.rules = names_apart.apart d.state
        (final_state_of e.machine.rules) inside ends_inside (ap (λ (c : Configuration ErasingName). c.state) is
        ∙ sym ends_named) in
        λ i. record { state = state i; one = (is i).one; two = (is i).two; three = (is i).three }

    module _ (alike : ErasingNumbersRunAlike) (x : List ℕ) where
      run_named : (n : ℕ) (d : Configuration ℕ) → Reaches (QuadruplesRunTo everywhere e.machine) n (start_of e x) d
          → Reaches (ErasingSteps p q) n (erasing_start p x) (in_state (name_of e) d)
      run_named n d run = subst (λ c. Reaches (ErasingSteps p q) n c (in_state (name_of e) d)) (start_named x)
          ((alike p q left right (name_of e) e.machine h.rules names_apart everywhere (start_of e x) begins_inside).0 n
          d run)

      run_numbered : (n : ℕ) (c : Configuration ErasingName) → Reaches (ErasingSteps p q) n (erasing_start p x) c
          → (d : Configuration ℕ) × Reaches (QuadruplesRunTo everywhere e.machine) n (start_of e x) d
          × (c ≡ in_state (name_of e) d) × IsIn (states_in e.machine.rules) d.state
      run_numbered n c run = (alike p q left right (name_of e) e.machine h.rules names_apart everywhere (start_of e x)
          begins_inside).1 n c (subst (λ b. Reaches (ErasingSteps p q) n b c) (sym (start_named x)) run)

      module _ (erases : ErasesInput) (same : p.symbols ≡ q.symbols) (letters : IsSpelledBy p x) (word : IsWord x) where
        pub erases_forth : (v w : ℕ) (y : List ℕ) → HaltsAfter p x v y → HaltsAfter q y w x
            → Reaches (QuadruplesRunTo everywhere e.machine) (4 * (v + w) + 4 * (length x + length y) + 10)
            (start_of e x) (end_of e y)
        erases_forth v w y first second =
            let n : ℕ = 4 * (v + w) + 4 * (length x + length y) + 10 in
            let found = run_numbered n (erasing_end q y) ((erases p q x left right same letters word).0 v w y first
            second) in
            subst (λ d. Reaches (QuadruplesRunTo everywhere e.machine) n (start_of e x) d)
            (same_end y found.0 found.3 (sym found.2)) found.1

        pub erases_back : (n : ℕ) (c : Configuration ℕ) → Reaches (QuadruplesRunTo everywhere e.machine) n
            (start_of e x) c → c.state ≡ final_state_of e.machine.rules
            → (v w : ℕ) × (y : List ℕ) × HaltsAfter p x v y × HaltsAfter q y w x
            × (n ≡ 4 * (v + w) + 4 * (length x + length y) + 10) × (c ≡ end_of e y)
        erases_back n c run final =
            let found = (erases p q x left right same letters word).1 n (in_state (name_of e) c) (run_named n c run)
            (ap (name_of e) final ∙ ends_named) in (
              found.0,
              found.1,
              found.2,
              found.3,
              found.4,
              found.5,
              same_end found.2 c (subst (IsIn (states_in e.machine.rules)) (sym final) ends_inside) found.6,
            )
