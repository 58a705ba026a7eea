-- Runs of a circuit: what `run` and `back` come to, and how they undo each other.
use Rattle.std.specs.Prelude.{◌≡◌, ℕ, ◌+◌, ◌-◌, ◌<◌, ◌≤◌, [], ◌∷◌, Option, Some, None, refl}
use Rattle.std.proofs.Common.{zero, suc, arith, sym, ap, subst, ◌∙◌}
use Rattle.std.proofs.lemmas.Bool.Decides.{nat_tests}
use Rattle.bn_lists.specs.Runs.{Reaches}
use Rattle.bn_lists.proofs.RunsLemmas.{runs_more}
use Rattle.bn_circuits.specs.Circuits.{Circuit, IsCircuit, IsConfig, Goes, IsStuck, IsFirst}
use Rattle.bn_circuits.specs.Stepping.{next, previous, advance, retreat, run, back, places, places_back}
use Rattle.bn_circuits.proofs.StepLemmas.{next-Goes, Goes-next, previous-Goes, Goes-previous, next-IsConfig}
use Rattle.bn_circuits.proofs.StepLemmas.{previous-IsConfig}
use Rattle.bn_circuits.specs.declared.config.Config.{Config}
use Rattle.bn_circuits.specs.RunLaws.{Makes}

module _ (k : Circuit) where
  run-suc : (c : Config) (t : ℕ) → run k c (suc t) ≡ advance k (run k c t)
  unfolding run
  run-suc c t = refl

  pub run-zero : (c : Config) → run k c 0 ≡ c
  unfolding run
  run-zero c = refl

  back-suc : (c : Config) (t : ℕ) → back k c (suc t) ≡ retreat k (back k c t)
  unfolding back
  back-suc c t = refl

  pub back-zero : (c : Config) → back k c 0 ≡ c
  unfolding back
  back-zero c = refl

  -- runs compose
  pub run_composes : (c : Config) (s t p : ℕ) → p ≡ s + t → run k c p ≡ run k (run k c s) t
  run_composes c s zero p sum =
      let e : p ≡ s = omega arith in
      ap (run k c) e ∙ sym (run-zero (run k c s))
  run_composes c s (suc t) p sum =
      let e : p ≡ suc (s + t) = omega arith in
      ap (run k c) e ∙ run-suc c (s + t) ∙ ap (advance k) (run_composes c s t (s + t) refl)
      ∙ sym (run-suc (run k c s) t)

  pub back_composes : (c : Config) (s t p : ℕ) → p ≡ s + t → back k c p ≡ back k (back k c s) t
  back_composes c s zero p sum =
      let e : p ≡ s = omega arith in
      ap (back k c) e ∙ sym (back-zero (back k c s))
  back_composes c s (suc t) p sum =
      let e : p ≡ suc (s + t) = omega arith in
      ap (back k c) e ∙ back-suc c (s + t) ∙ ap (retreat k) (back_composes c s t (s + t) refl)
      ∙ sym (back-suc (back k c s) t)

  advance-Goes : (c d : Config) → Goes k c d → advance k c ≡ d
  advance-Goes c d g = rw (Goes-next k c d g) refl

  -- the first step of a run
  pub run-first : (c d : Config) (t : ℕ) → Goes k c d → run k c (suc t) ≡ run k d t
  run-first c d t g =
      let sum : suc t ≡ 1 + t = omega arith in
      let once : run k c 1 ≡ d = run-suc c 0 ∙ ap (advance k) (run-zero c) ∙ advance-Goes c d g in
      run_composes c 1 t (suc t) sum ∙ ap (λ x. run k x t) once

  -- exactly n steps are the run of n steps
  pub Reaches-run : (n : ℕ) (c d : Config) → Reaches (Goes k) n c d → run k c n ≡ d
  Reaches-run zero c d made = run-zero c ∙ made
  Reaches-run (suc n) c d made = run-first c made.0 n made.1 ∙ Reaches-run n made.0 d made.2

  stuck-None : (o : Option Config) (c : Config) → next k c ≡ o → IsStuck k c → o ≡ None
  stuck-None None c is stuck = refl
  stuck-None (Some d) c is stuck = absurd (stuck d (next-Goes k c d is))

  pub next-stuck : (c : Config) → IsStuck k c → next k c ≡ None
  next-stuck c stuck = stuck-None (next k c) c refl stuck

  -- a run from where no step leads on stays there
  pub run-stuck : (c : Config) → IsStuck k c → (t : ℕ) → run k c t ≡ c
  run-stuck c stuck zero = run-zero c
  run-stuck c stuck (suc t) = run-suc c t ∙ ap (advance k) (run-stuck c stuck t) ∙ rw (next-stuck c stuck) refl

  -- n steps to an end, or as many as were asked for, are the run
  pub run_stops : (n t : ℕ) (c d : Config) → Reaches (Goes k) n c d → n ≤ t → (n < t → IsStuck k d) → run k c t ≡ d
  run_stops n zero c d made within ended =
      let e : n ≡ 0 = omega arith in
      ap (run k c) (sym e) ∙ Reaches-run n c d made
  run_stops n (suc t) c d made within ended =
      let s : suc t ≡ n + (suc t - n) = omega arith in
      run_composes c n (suc t - n) (suc t) s ∙ ap (λ x. run k x (suc t - n)) (Reaches-run n c d made)
      ∙ at_end (suc t - n) (omega arith)
    where
      at_end : (r : ℕ) → n + r ≡ suc t → run k d r ≡ d
      at_end zero sum = run-zero d
      at_end (suc r) sum = run-stuck d (ended (omega arith)) (suc r)

  full : (made t : ℕ) → made ≤ t → (made < t → ⊥) → made ≡ t
  full made t within not_fewer = grind (arith, nat_tests)

  more_made : (c : Config) (t : ℕ) (o : Option Config) → next k (run k c t) ≡ o → Makes k c t (run k c t)
      → Makes k c (suc t) (run k c (suc t))
  more_made c t None none before =
      let same : run k c (suc t) ≡ run k c t = run-suc c t ∙ rw none refl in
      record {
        made = before.made;
        within = let w : before.made ≤ t = before.within in omega arith;
        reaches = subst (Reaches (Goes k) before.made c) (sym same) before.reaches;
        ended = λ _ d g. let a = Goes-next k (run k c (suc t)) d g in let b : next k (run k c (suc t)) ≡ None =
            ap (next k) same ∙ none in cc;
      }
  more_made c t (Some d) some before =
      let is : run k c (suc t) ≡ d = run-suc c t ∙ rw some refl in
      let goes : Goes k (run k c t) d = next-Goes k (run k c t) d some in
      let all : before.made ≡ t = full before.made t before.within (λ fewer. before.ended fewer d goes) in
      record {
        made = before.made + 1;
        within = omega arith;
        reaches = subst (Reaches (Goes k) (before.made + 1) c) (sym is)
            (runs_more (Goes k) before.made c (run k c t) d before.reaches goes);
        ended = λ fewer. absurd (omega arith);
      }

  pub run_makes : (c : Config) (t : ℕ) → Makes k c t (run k c t)
  run_makes c zero = record {
    made = 0;
    within = omega arith;
    reaches = sym (run-zero c);
    ended = λ fewer. absurd (omega arith);
  }
  run_makes c (suc t) = more_made c t (next k (run k c t)) refl (run_makes c t)

  module _ (circuit : IsCircuit k) where
    retreat-Goes : (c d : Config) → Goes k c d → retreat k d ≡ c
    retreat-Goes c d g = rw (Goes-previous k circuit c d g) refl

    -- exactly n steps, taken back, are the run back of n steps
    pub Reaches-back : (n : ℕ) (c d : Config) → Reaches (Goes k) n c d → back k d n ≡ c
    Reaches-back zero c d made = back-zero d ∙ sym made
    Reaches-back (suc n) c d made = back-suc d n ∙ ap (retreat k) (Reaches-back n made.0 d made.2)
        ∙ retreat-Goes c made.0 made.1

    first-None : (o : Option Config) (c : Config) → IsConfig k c → previous k c ≡ o → IsFirst k c → o ≡ None
    first-None None c config is first = refl
    first-None (Some b) c config is first = absurd (first b (previous-Goes k circuit b c config is))

    pub previous-first : (c : Config) → IsConfig k c → IsFirst k c → previous k c ≡ None
    previous-first c config first = first-None (previous k c) c config refl first

    -- a run back from where no step leads stays there
    pub back-first : (c : Config) → IsConfig k c → IsFirst k c → (t : ℕ) → back k c t ≡ c
    back-first c config first zero = back-zero c
    back-first c config first (suc t) =
        back-suc c t ∙ ap (retreat k) (back-first c config first t) ∙ rw (previous-first c config first) refl

    -- n steps back to a beginning, or as many as were asked for, are the run back
    pub back_stops : (n t : ℕ) (c d : Config) → IsConfig k c → Reaches (Goes k) n c d → n ≤ t → (n < t → IsFirst k c)
        → back k d t ≡ c
    back_stops n t c d config made within ended =
        let s : t ≡ n + (t - n) = omega arith in
        back_composes d n (t - n) t s ∙ ap (λ x. back k x (t - n)) (Reaches-back n c d made)
        ∙ at_start (t - n) (omega arith)
      where
        at_start : (r : ℕ) → n + r ≡ t → back k c r ≡ c
        at_start zero sum = back-zero c
        at_start (suc r) sum = back-first c config (ended (omega arith)) (suc r)

    -- every configuration of a run is one
    pub Reaches-IsConfig : (n : ℕ) (c d : Config) → IsConfig k c → Reaches (Goes k) n c d → IsConfig k d
    Reaches-IsConfig zero c d config made = subst (IsConfig k) made config
    Reaches-IsConfig (suc n) c d config made = Reaches-IsConfig n made.0 d
        (next-IsConfig k circuit c made.0 config made.1) made.2

  -- the places that follow a step, and those at an end
  pub places-Goes : (c d : Config) (t : ℕ) → Goes k c d → places k (suc t) c ≡ d.place ∷ places k t d
  unfolding places
  places-Goes c d t g = rw (Goes-next k c d g) refl

  pub places-stuck : (c : Config) (t : ℕ) → IsStuck k c → places k t c ≡ []
  unfolding places
  places-stuck c zero stuck = refl
  places-stuck c (suc t) stuck = rw (next-stuck c stuck) refl

  pub places-zero : (c : Config) → places k 0 c ≡ []
  unfolding places
  places-zero c = refl

  pub places_back-zero : (c : Config) → places_back k 0 c ≡ []
  unfolding places_back
  places_back-zero c = refl

  pub places_back-Goes : (circuit : IsCircuit k) (c d : Config) (t : ℕ) → Goes k c d
      → places_back k (suc t) d ≡ c.place ∷ places_back k t c
  unfolding places_back
  places_back-Goes circuit c d t g = rw (Goes-previous k circuit c d g) refl

  pub places_back-first : (circuit : IsCircuit k) (c : Config) (t : ℕ) → IsConfig k c → IsFirst k c
      → places_back k t c ≡ []
  unfolding places_back
  places_back-first circuit c zero config first = refl
  places_back-first circuit c (suc t) config first = rw (previous-first circuit c config first) refl

-- a run ends in a configuration of the circuit
pub run-IsConfig : (k : Circuit) → IsCircuit k → (c : Config) → IsConfig k c → (t : ℕ) → IsConfig k (run k c t)
run-IsConfig k circuit c config t =
    let m = run_makes k c t in
    Reaches-IsConfig k circuit m.made c (run k c t) config m.reaches

retreat-IsConfig : (k : Circuit) → IsCircuit k → (c : Config) → IsConfig k c → IsConfig k (retreat k c)
retreat-IsConfig k circuit c config = by_previous (previous k c) refl
  where
    by_previous : (o : Option Config) → previous k c ≡ o → IsConfig k (retreat k c)
    by_previous None is = rw is config
    by_previous (Some b) is = rw is (previous-IsConfig k circuit b c config (previous-Goes k circuit b c config is))

-- a run back ends in a configuration of the circuit
pub back-IsConfig : (k : Circuit) → IsCircuit k → (c : Config) → IsConfig k c → (t : ℕ) → IsConfig k (back k c t)
back-IsConfig k circuit c config zero = subst (IsConfig k) (sym (back-zero k c)) config
back-IsConfig k circuit c config (suc t) = subst (IsConfig k) (sym (back-suc k c t))
    (retreat-IsConfig k circuit (back k c t) (back-IsConfig k circuit c config t))
