-- The second machine's reversible machine backward, from its end: it computes, then compares the output with the word
-- x, and takes the computation back.
use Rattle.std.specs.Prelude.{◌≡◌, ◌≢◌, ℕ, zero, suc, ◌+◌, ◌*◌, ◌<◌, ◌≤◌, ◌⊎◌, List, length}
use Rattle.std.proofs.Common.{refl, sym, ap, ◌∙◌, subst, arith, get_or, inl, inr}
use Rattle.std.proofs.lemmas.Bool.{cases_lt}
use Rattle.std.proofs.lemmas.Bool.Decides.{eqb_tells}
use Rattle.std.proofs.lemmas.List.{get_or_past}
use Rattle.bn_lists.specs.Runs.{Reaches}
use Rattle.bn_lists.proofs.RunsLemmas.{runs_join}
use Rattle.bn_machine.specs.Tape.{Tape, scanned, ahead, word_tape}
use Rattle.bn_machine.proofs.TapeLemmas.{write-scanned, scanned-ahead}
use Rattle.bn_machine.specs.Window.{anywhere}
use Rattle.bn_machine.specs.Machine.{Program, Moment, IsFinal, start, final_of}
use Rattle.bn_lists.specs.Lists.{IsIn}
use Rattle.bn_machine.specs.Machine as machine
use Rattle.bn_machine.specs.Run.{After, Follows, IsOutput, Ending, EndsAt, halts, sticks, runs}
use Rattle.bn_machine.proofs.MachineStepLemmas.{run_follows}
use Rattle.bn_machine.proofs.OutcomeLemmas.{run_goes_on, ending_exists}
use Rattle.bn_quad.specs.Quadruples.{Rule, Configuration, AppliesTo, Leads, HasNoRule, turned, turned_list, everywhere}
use Rattle.bn_quad.specs.Overlap.{IsDeterministic}
use Rattle.bn_quad.proofs.ReversibleLemmas.{same_configuration}
use Rattle.bn_bennett_laws.specs.List.{bennett, initial_name, final_name, goes_left, passes_letter, ends_copy}
use Rattle.bn_bennett_laws.proofs.ListLemmas.{each_rule, has_goes_left, has_passes_letter, has_ends_copy}
use Rattle.bn_bennett_laws.specs.Names.{IsUniformFrom}
use Rattle.bn_bennett_laws.specs.Stages.{IsStandardMachine, IsSpelledBy, history, retracing, copying, beginning, ending}
use Rattle.bn_bennett_laws.specs.Steps.{Finished, Stopped, finishes, stops, HasExit}
use Rattle.bn_bennett_laws.proofs.StageStepLemmas.{steps_once, exits_once}
use Rattle.bn_bennett_laws.specs.Laws.{HaltsAfter}
use Rattle.bn_bennett_laws.proofs.Moves.{left_leads, ends_leads}
use Rattle.bn_bennett_laws.proofs.Runs.{follow_by, retraces_two_steps}
use Rattle.bn_bennett_laws.proofs.Halted.{halted_is_ready}
use Rattle.bn_bennett_laws.proofs.Uniform.{list_uniform}
use Rattle.bn_bennett_laws.proofs.Theorem.{bennetts_theorem}
use Rattle.bn_bennett_laws.specs.declared.name.Name.{Name}
use Rattle.bn_bennett_laws.specs.declared.name.Name.TheVariants.{GoLeft, PassLetter}
use Rattle.bn_erase_laws.specs.Erasing.{IsWord, StepsBackOf}
use Rattle.bn_erase_laws.proofs.TurnedLemmas.{from_turned, follows_turned, run_turned}
use Rattle.bn_erase_laws.proofs.ErasingLemmas.{backward_deterministic}
use Rattle.bn_erase_laws.specs.ErasingLaws.{ComparesOutput}

module _ (q : Program) where
  -- one step backward, by a quadruple of the list
  back_step : (r : Rule Name) (a b : Configuration Name) → IsIn (bennett q) r → Leads r a b → b.state ≢ initial_name q
      → StepsBackOf q everywhere b a
  back_step r a b h leads going = record {
    going = going;
    follows = follows_turned (bennett q) a b (follow_by q r a b h leads);
    stays = record { one = tt; two = tt; three = tt };
  }

  -- no quadruple turned round applies, where each kind of quadruple is refuted
  no_rule_back : (c : Configuration Name) → ((r : Rule Name) → IsIn (bennett q) r → AppliesTo (turned r) c → ⊥)
      → HasNoRule (turned_list (bennett q)) c
  no_rule_back c refuted = record {
    none = λ n s e a.
        let found = from_turned (bennett q) s (record { place = n; stands = e }) in
        refuted found.0 found.1 (subst (λ t. AppliesTo t c) (sym found.2) a);
  }

  -- where the machine is stuck, so is its reversible machine backward
  pub stuck_back : (c : Moment) (ns : List ℕ) (o : Tape) → machine.IsMachineStuck q c
      → HasNoRule (turned_list (bennett q)) (retracing c ns o)
  stuck_back c ns o stuck =
      no_rule_back (retracing c ns o)
      (each_rule (λ r. AppliesTo (turned r) (retracing c ns o) → ⊥) q
      (λ m u e h. let f = h.from in cc) (λ m u e h. let f = h.from in cc)
      (λ h. let f = h.from in cc) (λ h. let f = h.from in cc) (λ a low high h. let f = h.from in cc)
      (λ h. let f = h.from in cc) (λ h. let f = h.from in cc) (λ a low high h. let f = h.from in cc)
      (λ h. let f = h.from in stuck.going (cc))
      (λ m u e h. let f = h.from in cc)
      (λ m u e h. let f = h.from in stuck.none.none m u e (record { from = cc; reads = h.one })))

  module _ (c : Moment) (ns x : List ℕ) where
    -- where the two tapes scan different letters, no quadruple applies
    pub differing_back : (k : ℕ) → scanned (ahead (suc k) c.tape) ≢ scanned (ahead (suc k) (word_tape x))
        → HasNoRule (turned_list (bennett q)) (copying GoLeft c ns x (suc k))
    differing_back k differ =
        no_rule_back (copying GoLeft c ns x (suc k))
        (each_rule (λ r. AppliesTo (turned r) (copying GoLeft c ns x (suc k)) → ⊥) q
        (λ m u e h. let f = h.from in cc) (λ m u e h. let f = h.from in cc)
        (λ h. let f = h.from in cc) (λ h. let f = h.from in cc) (λ a low high h. let f = h.from in cc)
        (λ h. differ (h.one ∙ sym h.three)) (λ h. let f = h.from in cc) (λ a low high h. differ (h.one ∙ sym h.three))
        (λ h. let f = h.from in cc)
        (λ m u e h. let f = h.from in cc) (λ m u e h. let f = h.from in cc))

    -- what comes of a comparison that begins at a: x is what stands on the work tape, or the run stops
    data Compared (a : Configuration Name) : Type 0 where
      same : IsOutput c.tape x → Compared a
      differs : (n : ℕ) (d : Configuration Name) → HasExit everywhere (turned_list (bennett q)) (initial_name q) n a d
          Stopped → Compared a

    -- with steps before it
    earlier : (m : ℕ) (a b : Configuration Name) → Reaches (StepsBackOf q everywhere) m a b → Compared b → Compared a
    earlier m a b run (same out) = same out
    earlier m a b run (differs n d exit) = differs (m + n) d (record
        { run = runs_join (StepsBackOf q everywhere) (m + n) m n a b d refl run exit.run; ends = exit.ends })

    module _ (last : scanned (history ns) ≡ length q.quints) (letters : IsSpelledBy q x) (word : IsWord x) where
      -- a letter that both tapes scan is passed
      passes_both : (k a : ℕ) → scanned (ahead (suc k) c.tape) ≡ a → scanned (ahead (suc k) (word_tape x)) ≡ a
          → Leads (passes_letter (length q.quints) a) (copying PassLetter c ns x (suc k))
          (copying GoLeft c ns x (suc k))
      passes_both k a one three = record {
        applies = record { from = refl; one = one; two = last; three = three };
        gives = same_configuration _ _ refl (sym (write-scanned (ahead (suc k) c.tape) a one))
            (sym (write-scanned (history ns) (length q.quints) last))
            (sym (write-scanned (ahead (suc k) (word_tape x)) a three));
      }

      left_step : (k : ℕ) → StepsBackOf q everywhere (copying PassLetter c ns x k) (copying GoLeft c ns x (suc k))
      left_step k = back_step goes_left _ _ (has_goes_left q) (left_leads c ns (length q.quints) last x k) (λ e. cc)

      pass_step : (k : ℕ) → k < length x → scanned (ahead (suc k) c.tape) ≡ get_or x k 0
          → StepsBackOf q everywhere (copying GoLeft c ns x (suc k)) (copying PassLetter c ns x (suc k))
      pass_step k low reads =
          let some : get_or x k 0 ≢ 0 = word k 0 low in
          back_step (passes_letter (length q.quints) (get_or x k 0)) _ _
          (has_passes_letter q (get_or x k 0) (omega arith) (letters k 0 low))
          (passes_both k (get_or x k 0) reads (scanned-ahead x k)) (λ e. cc)

      -- the first k letters agree
      abbrev Agree : ℕ → Type 0
      Agree k = (j : ℕ) → j < k → scanned (ahead (suc j) c.tape) ≡ get_or x j 0

      one_more : (k : ℕ) → Agree k → scanned (ahead (suc k) c.tape) ≡ get_or x k 0 → Agree (suc k)
      one_more k agree here j low =
          elim (cases_lt j k) [
            | inl before ↦ agree j before
            | inr after ↦ let there : k ≡ j = omega arith in subst (λ i. scanned (ahead (suc i) c.tape) ≡ get_or x i 0)
                there here
          ]

      all_agree : Agree (length x) → scanned (ahead (suc (length x)) c.tape) ≡ 0 → IsOutput c.tape x
      all_agree agree blank = record { letters = λ k low. word k 0 low; spelled = agree; ended = blank }

      stopped_at : (k : ℕ) → scanned (ahead (suc k) c.tape) ≢ get_or x k 0 → Compared (copying PassLetter c ns x k)
      stopped_at k other =
          differs 1 (copying GoLeft c ns x (suc k)) (record {
            run = (copying GoLeft c ns x (suc k), left_step k, refl);
            ends = stops (λ e. cc) (differing_back k (λ e. other (e ∙ scanned-ahead x k))) refl;
          })

      -- from the k-th letter on, with so many left
      compare : (left k : ℕ) → k + left ≡ length x → Agree k → Compared (copying PassLetter c ns x k)
      compare zero k sum agree =
          elim (eqb_tells (scanned (ahead (suc k) c.tape)) (get_or x k 0)) [
            | inl equal ↦
                let all : k ≡ length x = omega arith in
                let past : get_or x k 0 ≡ 0 = get_or_past x k 0 (omega arith) in
                same (all_agree (subst Agree all agree) (subst (λ i. scanned (ahead (suc i) c.tape) ≡ 0) all
                (equal.1 ∙ past)))
            | inr other ↦ stopped_at k other.1
          ]
      compare (suc l) k sum agree =
          elim (eqb_tells (scanned (ahead (suc k) c.tape)) (get_or x k 0)) [
            | inl equal ↦
                earlier 2 _ _ (
                  copying GoLeft c ns x (suc k),
                  left_step k,
                  (copying PassLetter c ns x (suc k), pass_step k (omega arith) equal.1, refl),
                )
                (compare l (suc k) (omega arith) (one_more k agree equal.1))
            | inr other ↦ stopped_at k other.1
          ]

      -- from the halted machine to the copied word's blank
      begins_comparing : IsFinal q c → scanned c.tape ≡ 0 → Reaches (StepsBackOf q everywhere) 1
          (retracing c ns (word_tape x)) (copying PassLetter c ns x 0)
      begins_comparing final blank = (
        copying PassLetter c ns x 0,
        back_step
            (ends_copy (final_of q.quints) (length q.quints)) _ _ (has_ends_copy q)
            (ends_leads c ns (length q.quints) last (final_of q.quints) x final blank) (λ e. cc),
        refl,
      )

      -- from the halted machine on
      compare_halted : IsFinal q c → scanned c.tape ≡ 0 → Compared (retracing c ns (word_tape x))
      compare_halted final blank = earlier 1 _ _ (begins_comparing final blank)
          (compare (length x) 0 (omega arith) (λ j low. absurd (omega arith)))

      -- past the first k letters, which agree, to the next
      passes_agreeing : (k : ℕ) → k ≤ length x → Agree k → Reaches (StepsBackOf q everywhere) (2 * k + 1)
          (copying PassLetter c ns x 0) (copying GoLeft c ns x (suc k))
      passes_agreeing zero low agree = (copying GoLeft c ns x 1, left_step 0, refl)
      passes_agreeing (suc k) low agree =
          let count : 2 * suc k + 1 ≡ (2 * k + 1) + 2 = omega arith in
          let before = passes_agreeing k (omega arith) (λ j less. agree j (omega arith)) in
          runs_join (StepsBackOf q everywhere) (2 * suc k + 1) (2 * k + 1) 2 _ _ _ count before (
            copying PassLetter c ns x (suc k),
            pass_step k (omega arith) (agree k (omega arith)),
            (copying GoLeft c ns x (suc (suc k)), left_step (suc k), refl),
          )

      -- from the halted machine past the first k letters, which agree
      pub passes_from_halted : IsFinal q c → scanned c.tape ≡ 0 → (k : ℕ) → k ≤ length x
          → ((j : ℕ) → j < k → scanned (ahead (suc j) c.tape) ≡ get_or x j 0)
          → Reaches (StepsBackOf q everywhere) (2 * k + 2) (retracing c ns (word_tape x))
          (copying GoLeft c ns x (suc k))
      passes_from_halted final blank k low agree = runs_join (StepsBackOf q everywhere) (2 * k + 2) 1 (2 * k + 1) _ _ _
          (omega arith) (begins_comparing final blank) (passes_agreeing k low agree)

-- ---- the law

module _ (q : Program) (y x : List ℕ) (standard : IsStandardMachine q) (spelled : IsSpelledBy q y) where
  uniform : IsUniformFrom (initial_name q) (final_name q) (bennett q)
  uniform = list_uniform q standard.standard

  -- the whole run backward
  pub compares_forth : (v : ℕ) → HaltsAfter q y v x → Reaches (StepsBackOf q everywhere) (4 * v + 4 * length x + 5)
      (ending q y x) (beginning q y)
  compares_forth v h = run_turned (bennett q) (initial_name q) (final_name q) uniform everywhere
      (4 * v + 4 * length x + 5) (beginning q y) (ending q y x) (record { one = tt; two = tt; three = tt })
      ((bennetts_theorem q y standard spelled).0 v x h)

  -- its first part, to the moment after these steps
  computes_back : (ns : List ℕ) (c : Moment) → Follows anywhere q ns (start q y) c
      → Reaches (StepsBackOf q everywhere) (2 * length ns) (ending q y x) (retracing c ns (word_tape x))
  computes_back ns c run = run_turned (bennett q) (initial_name q) (final_name q) uniform everywhere (2 * length ns)
      (retracing c ns (word_tape x)) (ending q y x) (record { one = tt; two = tt; three = tt })
      (retraces_two_steps q everywhere y ns x c standard run tt tt (λ j low. tt))

  pub computed : (v : ℕ) (c : Moment) → After q y v c → (ns : List ℕ) × Follows anywhere q ns (start q y) c
      × Reaches (StepsBackOf q everywhere) (2 * v) (ending q y x) (retracing c ns (word_tape x))
  computed v c run =
      let ns = run_follows anywhere q v (start q y) c run in (
        ns.0,
        ns.2,
        subst (λ i. Reaches (StepsBackOf q everywhere) (2 * i) (ending q y x)
            (retracing c ns.0 (word_tape x))) ns.1 (computes_back ns.0 c ns.2),
      )

  abbrev Back : ℕ → Configuration Name → Type 0
  Back n e = (v : ℕ) × HaltsAfter q y v x × (n ≡ 4 * v + 4 * length x + 5) × (e ≡ beginning q y)

  module _ (letters : IsSpelledBy q x) (word : IsWord x) (n : ℕ) (e : Configuration Name)
      (run : Reaches (StepsBackOf q everywhere) n (ending q y x) e) (is : e.state ≡ initial_name q) where
    apart : IsDeterministic (turned_list (bennett q))
    apart = backward_deterministic q standard.standard

    here : HasExit everywhere (turned_list (bennett q)) (initial_name q) n (ending q y x) e Finished
    here = record { run = run; ends = finishes is refl }

    -- a run that stops is another one
    not_stopped : (m : ℕ) (d : Configuration Name) → HasExit everywhere (turned_list (bennett q)) (initial_name q) m
        (ending q y x) d Stopped → ⊥
    not_stopped m d stopped = let all = exits_once everywhere (turned_list (bennett q)) (initial_name q) apart n m
        (ending q y x) e d Finished Stopped here stopped in let exits : Finished ≡ Stopped = all.2 in cc

    -- the machine makes n steps, so there are 2n backward, and the run can't have ended before
    goes_on : (c : Moment) (ns : List ℕ) → Reaches (StepsBackOf q everywhere) (2 * n) (ending q y x)
        (retracing c ns (word_tape x)) → (n < 2 * n) ⊎ (2 * n ≤ n) → ⊥
    goes_on c ns more (inl low) =
        let next = run_goes_on (StepsBackOf q everywhere) (steps_once everywhere (turned_list (bennett q))
        (initial_name q) apart) n (2 * n) (ending q y x) e (retracing c ns (word_tape x)) low run more in
        next.1.going is
    goes_on c ns more (inr high) =
        let none : n ≡ 0 = omega arith in
        let there : ending q y x ≡ e = subst (λ k. Reaches (StepsBackOf q everywhere) k (ending q y x) e) none run in
        let state : (ending q y x).state ≡ e.state = ap (λ (d : Configuration Name). d.state) there in
        cc

    by_comparison : (i : ℕ) (c : Moment) (ns : List ℕ) → After q y i c → IsFinal q c
        → Reaches (StepsBackOf q everywhere) (2 * i) (ending q y x) (retracing c ns (word_tape x))
        → Compared q c ns x (retracing c ns (word_tape x)) → Back n e
    by_comparison i c ns made final first (same out) =
        let halted : HaltsAfter q y i x = record { moment = c; run = made; final = final; output = out } in
        let whole : HasExit everywhere (turned_list (bennett q)) (initial_name q) (4 * i + 4 * length x + 5)
        (ending q y x) (beginning q y) Finished = record {
          run = compares_forth i halted;
          ends = finishes refl refl;
        } in
        let all = exits_once everywhere (turned_list (bennett q)) (initial_name q) apart n (4 * i + 4 * length x + 5)
        (ending q y x) e (beginning q y) Finished Finished here whole in
        (i, halted, all.0, all.1)
    by_comparison i c ns made final first (differs m d exit) =
        absurd (not_stopped (2 * i + m) d (record {
          run = runs_join (StepsBackOf q everywhere) (2 * i + m) (2 * i) m _ _ _ refl first exit.run;
          ends = exit.ends;
        }))

    by_end : (i : ℕ) (o : Ending) (c : Moment) → After q y i c → EndsAt q n i c o → Back n e
    by_end i o c made (halts z final out why) =
        let found = computed i c made in
        let ready = halted_is_ready q anywhere y found.0 z c standard spelled found.1 final out in
        by_comparison i c found.0 made final found.2 (compare_halted q c found.0 x ready.last letters word final
        ready.blank)
    by_end i o c made (sticks stuck why) =
        let found = computed i c made in
        absurd (not_stopped (2 * i) (retracing c found.0 (word_tape x))
        (record { run = found.2; ends = stops (λ same. cc) (stuck_back q c found.0 (word_tape x) stuck) refl }))
    by_end i o c made (runs d goes all why) =
        let found = computed n c (subst (λ k. After q y k c) all made) in
        absurd (goes_on c found.0 found.2 (cases_lt n (2 * n)))

    pub compares_back : Back n e
    compares_back = let ends = ending_exists q y n in by_end ends.0 ends.1 ends.2.moment ends.2.run ends.2.ends

pub compares_output : ComparesOutput
compares_output q y x standard spelled letters word = (
  compares_forth q y x standard spelled,
  λ n e run is. compares_back q y x standard spelled letters word n e run is,
)
