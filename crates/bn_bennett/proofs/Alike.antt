-- The machine of a translation makes the runs of Bennett's list.
use Rattle.std.proofs.Common.{◌≡◌, ◌<◌, ◌+◌, ◌*◌, ◌∙◌, ℕ, suc, zero, List, length, sym, ap, subst, arith}
use Rattle.bn_lists.specs.Runs.{Reaches}
use Rattle.bn_machine.specs.Machine.{Program}
use Rattle.bn_quad.specs.Quadruples.{DeedApplies, Configuration, QuadruplesRunTo, Quadruples, everywhere, Rooms, Rule}
use Rattle.bn_quad.specs.Quadruples.{final_state_of, initial_of}
use Rattle.bn_quad.proofs.QuadStepLemmas.{goes_leads}
use Rattle.bn_machine.specs.Tape.{blank_tape, scanned, word_tape}
use Rattle.bn_machine.specs.Outcome as outcome
use Rattle.bn_machine.specs.Outcome.{HasOutcome, Limits, Outcome}
use Rattle.bn_machine.specs.declared.quint.Side.{Side}
use Rattle.std.specs.Prelude.{◌↔◌}
use Rattle.bn_lists.specs.Lists.{IsIn}
use Rattle.bn_bennett_laws.proofs.InsideLemmas.{begins_in, ends_in, state_below}
use Rattle.bn_bennett_laws.specs.Laws.{BennettsTheorem, BoundedRunsAgree, HaltsAfter, NumbersPassTests, NumbersRunAlike}
use Rattle.bn_bennett_laws.specs.Laws.{RunsHaveNoRoom}
use Rattle.bn_bennett_laws.specs.List.{bennett, initial_name, final_name}
use Rattle.bn_bennett_laws.specs.Names.{states_in}
use Rattle.bn_bennett_laws.specs.Renamed.{KeepsApart, in_state, rename}
use Rattle.bn_bennett_laws.proofs.RenamedLemmas.{first_read_before, from_in, names_kept_apart, nth_before, reached_in}
use Rattle.bn_bennett_laws.specs.Stages.{Comes as NamedComes, EndsAs, HasNoRoom, IsAfter, IsSpelledBy}
use Rattle.bn_bennett_laws.specs.Stages.{IsStandardMachine, StepsOf, beginning, ending, rooms_of}
use Rattle.bn_bennett_laws.specs.Steps.{EndsAt, Exit, Finished, HasNoFirstRead, Leaving, Stopped}
use Rattle.bn_bennett_laws.specs.declared.name.Name.{Name}
use Rattle.bn_bennett_laws.specs.declared.name.Name.TheVariants.{GoRight}
use Rattle.bn_bennett.specs.Translation.{IsTranslation, Translation, name_of}
use Rattle.bn_bennett.specs.Runs.{Comes, MachineEndsAs, Runs, beginning_of, ending_of}
use Rattle.bn_bennett.proofs.Counting.{numbers_states}

-- ---- any machine

-- the states along a run are states of the quadruples
pub run_inside : (q : Quadruples) (rooms : Rooms) (n : ℕ) (c d : Configuration ℕ) → IsIn (states_in q.rules) c.state
    → Reaches (QuadruplesRunTo rooms q) n c d → IsIn (states_in q.rules) d.state
run_inside q rooms zero c d here run = subst (λ (x : Configuration ℕ). IsIn (states_in q.rules) x.state) run here
run_inside q rooms (suc n) c d here run =
    run_inside q rooms n run.0 d (reached_in (λ (k : ℕ). k) q.rules c run.0
    (record { number = run.1.0; leads = goes_leads rooms q run.1.0 c run.0 run.1.1 })) run.2

-- what no rule reads on tape 1, none reads by its name
first_read_named : (f : ℕ → Name) (rs : List (Rule ℕ)) → KeepsApart f rs → (c : Configuration ℕ)
    → IsIn (states_in rs) c.state → HasNoFirstRead rs c → HasNoFirstRead (rename f rs) (in_state f c)
first_read_named f rs keeps c here none = record {
  none = λ n s e from reads.
      let found = nth_before f rs n s e in
      let r = found.0 in
      let state : c.state ≡ r.from = keeps.apart c.state r.from here
      (from_in rs r (record { place = n; stands = found.1 })) (from ∙ ap (λ (x : Rule Name). x.from) (sym found.2))
      in
      none.none n r found.1 state (subst (λ (x : Rule Name). DeedApplies x.one c.one) (sym found.2) reads);
}

-- ---- the machine of a translation

module _ (p : Program) (t : Translation) (h : IsTranslation p t) where
  pub names_apart : KeepsApart (name_of t) t.machine.rules
  names_apart = names_kept_apart GoRight t.names t.machine.rules (numbers_states (bennett p) t.names h.names).apart
      below
    where
      below : (k : ℕ) → IsIn (states_in t.machine.rules) k → k < length t.names
      below k there = let low = state_below t.machine h.machine k there in omega (arith, h.states)

  pub begins_inside : IsIn (states_in t.machine.rules) (initial_of t.machine.rules)
  begins_inside = begins_in t.machine h.machine

  ends_inside : IsIn (states_in t.machine.rules) (final_state_of t.machine.rules)
  ends_inside = ends_in t.machine h.machine

  module _ (standard : IsStandardMachine p) (tests : NumbersPassTests) where
    pub begins_named : name_of t (initial_of t.machine.rules) ≡ initial_name p
    begins_named = (tests p standard (name_of t) t.machine.rules h.rules).3

    pub ends_named : name_of t (final_state_of t.machine.rules) ≡ final_name p
    ends_named = (tests p standard (name_of t) t.machine.rules h.rules).4

    pub beginning_named : (word : List ℕ) → in_state (name_of t) (beginning_of t word) ≡ beginning p word
    beginning_named word = λ i. record {
      state = begins_named i;
      one = word_tape word;
      two = blank_tape;
      three = blank_tape;
    }

    pub ending_named : (word y : List ℕ) → in_state (name_of t) (ending_of t word y) ≡ ending p word y
    ending_named word y = λ i. record {
      state = ends_named i;
      one = word_tape word;
      two = blank_tape;
      three = word_tape y;
    }

    -- a configuration that is named as the end is the end
    same_ending : (word y : List ℕ) (d : Configuration ℕ) → IsIn (states_in t.machine.rules) d.state
        → in_state (name_of t) d ≡ ending p word y → d ≡ ending_of t word y
    same_ending word y d inside e =
        let state : d.state ≡ final_state_of t.machine.rules = names_apart.apart d.state
        (final_state_of t.machine.rules) inside ends_inside (ap (λ (x : Configuration Name). x.state) e
        ∙ sym ends_named) in
        λ i. record { state = state i; one = (e i).one; two = (e i).two; three = (e i).three }

    module _ (alike : NumbersRunAlike) (word : List ℕ) where
      abbrev named : Configuration ℕ → Configuration Name
      named d = in_state (name_of t) d

      pub run_named : (rooms : Rooms) (n : ℕ) (d : Configuration ℕ) → Runs t word rooms n d
          → Reaches (StepsOf p rooms) n (beginning p word) (named d)
      run_named rooms n d run = subst (λ x. Reaches (StepsOf p rooms) n x (named d)) (beginning_named word)
          ((alike p standard (name_of t) t.machine h.rules names_apart rooms (beginning_of t word) begins_inside).0 n d
          run)

      pub run_numbered : (rooms : Rooms) (n : ℕ) (x : Configuration Name)
          → Reaches (StepsOf p rooms) n (beginning p word) x → (d : Configuration ℕ) × Runs t word rooms n d
          × (x ≡ named d) × IsIn (states_in t.machine.rules) d.state
      run_numbered rooms n x run = (alike p standard (name_of t) t.machine h.rules names_apart rooms
          (beginning_of t word) begins_inside).1 n x (subst (λ c. Reaches (StepsOf p rooms) n c x)
          (sym (beginning_named word)) run)

      -- ---- Bennett's theorem

      pub halts_forth : BennettsTheorem → IsSpelledBy p word → (v : ℕ) (y : List ℕ) → HaltsAfter p word v y
          → Runs t word everywhere (4 * v + 4 * length y + 5) (ending_of t word y)
      halts_forth theorem letters v y halts =
          let found = run_numbered everywhere (4 * v + 4 * length y + 5) (ending p word y)
          ((theorem p word standard letters).0 v y halts) in
          subst (λ d. Runs t word everywhere (4 * v + 4 * length y + 5) d)
          (same_ending word y found.0 found.3 (sym found.2)) found.1

      pub halts_back : BennettsTheorem → IsSpelledBy p word → (n : ℕ) (c : Configuration ℕ) → Runs t word everywhere n c
          → c.state ≡ final_state_of t.machine.rules → (v : ℕ) × (y : List ℕ) × HaltsAfter p word v y
          × (n ≡ 4 * v + 4 * length y + 5) × (c ≡ ending_of t word y)
      halts_back theorem letters n c run final =
          let found = (theorem p word standard letters).1 n (named c) (run_named everywhere n c run)
          (ap (name_of t) final ∙ ends_named) in (
            found.0,
            found.1,
            found.2,
            found.3,
            same_ending word found.1 c (subst (IsIn (states_in t.machine.rules)) (sym final) ends_inside) found.4,
          )

      -- ---- within limits

      comes_named : (l : Limits) (n : ℕ) (d : Configuration ℕ) (e : Exit) → Comes t word l n d e
          → NamedComes p word l n (named d) e
      comes_named l n d e c = record {
        run = run_named (rooms_of l) n d c.run;
        ends = ((alike p standard (name_of t) t.machine h.rules names_apart (rooms_of l) d
            (run_inside t.machine (rooms_of l) n (beginning_of t word) d begins_inside c.run)).2 e).0 c.ends;
      }

      comes_numbered : (l : Limits) (n : ℕ) (x : Configuration Name) (e : Exit) → NamedComes p word l n x e
          → (d : Configuration ℕ) × Comes t word l n d e × (x ≡ named d)
      comes_numbered l n x e c =
          let found = run_numbered (rooms_of l) n x c.run in
          let ends : EndsAt (rooms_of l) (bennett p) (final_name p) (named found.0) e =
          subst (λ y. EndsAt (rooms_of l) (bennett p) (final_name p) y e) found.2 c.ends in (
            found.0,
            record {
              run = found.1;
              ends = ((alike p standard (name_of t) t.machine h.rules names_apart
                  (rooms_of l) found.0 found.3).2 e).1 ends;
            },
            found.2,
          )

      no_read_named : (l : Limits) (n : ℕ) (d : Configuration ℕ) (e : Exit) → Comes t word l n d e
          → HasNoFirstRead t.machine.rules d → HasNoFirstRead (bennett p) (named d)
      no_read_named l n d e c none =
          subst (λ rs. HasNoFirstRead rs (named d)) h.rules (first_read_named (name_of t) t.machine.rules names_apart d
          (run_inside t.machine (rooms_of l) n (beginning_of t word) d begins_inside c.run) none)

      no_read_numbered : (l : Limits) (d : Configuration ℕ) → HasNoFirstRead (bennett p) (named d)
          → HasNoFirstRead t.machine.rules d
      no_read_numbered l d none =
          first_read_before (name_of t) t.machine.rules names_apart (rooms_of l) (final_state_of t.machine.rules)
          ends_inside d (subst (λ rs. HasNoFirstRead rs (named d)) (sym h.rules) none)

      ends_forth : (l : Limits) (i : ℕ) (o : Outcome) → EndsAs p word l i o → MachineEndsAs t word l i o
      ends_forth l i (outcome.Halted y) (all, c) =
          let n : ℕ = 4 * i + 4 * length y + 5 in
          let found = comes_numbered l n (ending p word y) Finished c in
          let inside = run_inside t.machine (rooms_of l) n (beginning_of t word) found.0 begins_inside found.1.run in
          (all, subst (λ d. Comes t word l n d Finished) (same_ending word y found.0 inside (sym found.2)) found.1)
      ends_forth l i (outcome.Stuck state symbol) (x, c, at, symbols, none) =
          let found = comes_numbered l (2 * i) x Stopped c in (
            found.0,
            found.1,
            ap (λ (y : Configuration Name). y.state) (sym found.2) ∙ at,
            ap (λ (y : Configuration Name). scanned y.one) (sym found.2) ∙ symbols,
            no_read_numbered l found.0 (subst (HasNoFirstRead (bennett p)) found.2 none),
          )
      ends_forth l i (outcome.Outside tape side) (n, x, c, after) =
          let found = comes_numbered l n x (Leaving tape side) c in (
            n,
            found.0,
            found.1,
            subst (λ (y : Configuration Name). IsAfter i n y.state y.two.head y.three.head) found.2 after,
          )

      ends_back : (l : Limits) (i : ℕ) (o : Outcome) → MachineEndsAs t word l i o → EndsAs p word l i o
      ends_back l i (outcome.Halted y) (all, c) =
          let n : ℕ = 4 * i + 4 * length y + 5 in (
            all,
            subst (λ x. NamedComes p word l n x Finished) (ending_named word y)
                (comes_named l n (ending_of t word y) Finished c),
          )
      ends_back l i (outcome.Stuck state symbol) (d, c, at, symbols, none) =
          (named d, comes_named l (2 * i) d Stopped c, at, symbols, no_read_named l (2 * i) d Stopped c none)
      ends_back l i (outcome.Outside tape side) (n, d, c, after) =
          (n, named d, comes_named l n d (Leaving tape side) c, after)

      pub no_room : RunsHaveNoRoom → IsSpelledBy p word → (l : Limits) (i tape : ℕ) (end : Side)
          → HasOutcome p word l i (outcome.Outside tape end) → (n : ℕ) (d : Configuration ℕ)
          → Comes t word l n d (Leaving tape end)
          → HasNoRoom p word l i tape end (named d)
      no_room law letters l i tape end h n d comes = law p word standard letters l i tape end h n (named d)
          (comes_named l n d (Leaving tape end) comes)

      pub ends_alike : BoundedRunsAgree → IsSpelledBy p word → (l : Limits) (i : ℕ) (o : Outcome)
          → HasOutcome p word l i o ↔ MachineEndsAs t word l i o
      ends_alike agree letters l i o =
          let both = agree p word standard letters l i o in
          (λ a. ends_forth l i o (both.0 a), λ b. both.1 (ends_back l i o b))
