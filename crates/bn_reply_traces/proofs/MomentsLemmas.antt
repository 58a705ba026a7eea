-- The answer of `moments` is there, and is one; and what is given of it.
use Rattle.std.specs.Prelude.{◌≡◌, ◌≢◌, ℕ, zero, suc, ◌+◌, ◌<◌, ◌≤◌, List, [], ◌++◌, All, Option, refl}
use Rattle.std.proofs.Common.{arith, inl, inr, sym, subst, ap, ◌∙◌, append_assoc, add-one}
use Rattle.std.proofs.lemmas.Bool.{cases_lt}
use Rattle.bn_lists.specs.Runs.{Reaches}
use Rattle.bn_lists.proofs.RunsLemmas.{runs_end_once}
use Rattle.bn_circuits.specs.declared.place.Place.{Place}
use Rattle.bn_io.specs.Told.{Grows, GrowsByFront}
use Rattle.bn_io.proofs.FaultsLemmas.{Rose-late}
use Rattle.bn_io.proofs.ToldLemmas.{Grows-joins}
use Rattle.bn_machine.proofs.OutcomeLemmas.{run_goes_on}
use Rattle.bn_circuits.proofs.WalkLemmas.{hears-nothing}
use Rattle.bn_quad.specs.Overlap.{IsDeterministic}
use Rattle.bn_quad.specs.Quadruples.{Configuration, Quadruples, QuadruplesRunTo, everywhere, final_state_of}
use Rattle.bn_quad.proofs.QuadStepLemmas.{goes_function}
use Rattle.bn_bennett_laws.specs.Steps.{Steps}
use Rattle.bn_network.specs.Starts.{words_on}
use Rattle.bn_erase_laws.proofs.DecidedLemmas.{Next, bounded, has_none, is_final, steps_on}
use Rattle.bn_qtable.specs.Rows.{QuadTable}
use Rattle.bn_reply.specs.Answering.{HasAnswer, IsOneAnswer, IsSettled}
use Rattle.bn_reply.specs.Codes.{IsReplyStatus}
use Rattle.bn_reply.specs.Ends as written
use Rattle.bn_reply.specs.Streams.{AnswerEnds, IsBegun, begun, cut, wanting, whole}
use Rattle.bn_reply.specs.declared.status.Status.{Status}
use Rattle.bn_reply_traces.specs.ConfigurationText.{IsConfigurationLineAfter}
use Rattle.bn_reply_traces.specs.MomentText.{AreLines}
use Rattle.bn_reply_traces.specs.MomentsReply.{ComesOut, Halted, Outcome, Running, Stuck, TellsMoments}
use Rattle.bn_reply_traces.specs.MomentsReply.{moments_outcome_line, outcome_status}
use Rattle.bn_reply_traces.specs.Stages.{OutcomeEnds}
use Rattle.bn_reply_traces.proofs.ConfigurationLemmas.{final_not_going, lines_some, none_not_going, number_or, one_line}
use Rattle.bn_reply_traces.proofs.ConfigurationLemmas.{steps_go, words_shown}
use Rattle.bn_reply_traces.proofs.LinesLemmas.{lines_front, lines_once}

-- ---- how a run comes out

-- a run that comes out goes no further within n steps
ends_there : (p : Quadruples) (n i j : ℕ) (c d : Configuration ℕ) (o : Outcome) → ComesOut p n i c o → j ≤ n → i < j →
    QuadruplesRunTo everywhere p c d → ⊥
ends_there p n i j c d Halted out few later goes = final_not_going p c d out goes
ends_there p n i j c d Stuck out few later goes = none_not_going p c d out.none goes
ends_there p n i j c d Running out few later goes = let all = out.0 in absurd (omega (arith, few, later, all))

outcome_once : (p : Quadruples) (n i : ℕ) (c : Configuration ℕ) (o q : Outcome) → ComesOut p n i c o
    → ComesOut p n i c q → o ≡ q
outcome_once p n i c Halted Halted a b = refl
outcome_once p n i c Halted Stuck a b = absurd (b.going a)
outcome_once p n i c Halted Running a b = absurd (final_not_going p c b.1.0 a b.1.1)
outcome_once p n i c Stuck Halted a b = absurd (a.going b)
outcome_once p n i c Stuck Stuck a b = refl
outcome_once p n i c Stuck Running a b = absurd (none_not_going p c b.1.0 a.none b.1.1)
outcome_once p n i c Running Halted a b = absurd (final_not_going p c a.1.0 b a.1.1)
outcome_once p n i c Running Stuck a b = absurd (none_not_going p c a.1.0 b.none a.1.1)
outcome_once p n i c Running Running a b = refl

runs_go : (p : Quadruples) → IsDeterministic p.rules → (i : ℕ) (c d : Configuration ℕ) →
    Reaches (Steps everywhere p.rules (final_state_of p.rules)) i c d → Reaches (QuadruplesRunTo everywhere p) i c d
runs_go p apart zero c d run = run
runs_go p apart (suc i) c d run = (run.0, steps_go p c run.0 apart run.1, runs_go p apart i run.0 d run.2)

outcome_some : (p : Quadruples) → IsDeterministic p.rules → (n made : ℕ) (c : Configuration ℕ) →
    Next number_or p.rules (final_state_of p.rules) c →
    ((d : Configuration ℕ) → Steps everywhere p.rules (final_state_of p.rules) c d → made ≡ n) →
    (o : Outcome) × ComesOut p n made c o
outcome_some p apart n made c (is_final is) all = (Halted, is)
outcome_some p apart n made c (has_none going none) all = (Stuck, record { going = going; none = none })
outcome_some p apart n made c (steps_on d s) all = (Running, (all d s, (d, steps_go p c d apart s)))

outcome_answers : (o : Outcome) → IsReplyStatus (outcome_status o)
outcome_answers Halted = tt
outcome_answers Stuck = tt
outcome_answers Running = tt

-- ---- the answer

module _ (t : QuadTable) (n : ℕ) (one two three : List ℕ) where
  abbrev first : Configuration ℕ
  first = words_on t.machine one two three

  abbrev Line : ℕ → List ℕ → Type 0
  Line = IsConfigurationLineAfter t first

  abbrev step : Configuration ℕ → Configuration ℕ → Type 0
  step = QuadruplesRunTo everywhere t.machine

  pub moments_some : IsDeterministic t.machine.rules → All (λ s. s ≢ 0) one → All (λ s. s ≢ 0) two →
      All (λ s. s ≢ 0) three → HasAnswer (TellsMoments t n one two three)
  moments_some apart l1 l2 l3 =
      let b = bounded number_or t.machine.rules (final_state_of t.machine.rules) n first in
      let run = runs_go t.machine apart b.made first b.last b.run in
      let out = outcome_some t.machine apart n b.made b.last b.next b.all in
      let lines = lines_some t first b.made b.last apart (words_shown first one two three refl refl refl l1 l2 l3) run
      in (
        outcome_status out.0,
        lines.0 ++ moments_outcome_line t b.made b.last out.0,
        [],
        record {
          steps = b.made;
          last = b.last;
          outcome = out.0;
          in_time = b.in_time;
          run = run;
          comes_out = out.1;
          moments = lines.0;
          lines = lines.1;
          status_is = refl;
          text_is = refl;
          silent = refl;
        },
      )

  -- a line stands within the steps of the run
  within : (i j : ℕ) (c : Configuration ℕ) (o : Outcome) → Reaches step i first c → ComesOut t.machine n i c o → j ≤ n →
      (d : Configuration ℕ) → Reaches step j first d → j ≤ i
  within i j c o run out few d further = elim (cases_lt i j) [
    | inr h ↦ h
    | inl later ↦
        let goes = run_goes_on step (goes_function everywhere t.machine) i j first c d later run further in
        absurd (ends_there t.machine n i j c goes.0 o out few later goes.1)
  ]

  -- the runs of two answers are one
  same_run : (i j : ℕ) (c d : Configuration ℕ) (o q : Outcome) → i ≤ n → j ≤ n → Reaches step i first c →
      Reaches step j first d → ComesOut t.machine n i c o → ComesOut t.machine n j d q → (i ≡ j) × (c ≡ d) × (o ≡ q)
  same_run i j c d o q few many run further out also =
      let low : j ≤ i = within i j c o run out many d further in
      let high : i ≤ j = within j i d q further also few c run in
      let steps : i ≡ j = omega (arith, low, high) in
      let moved : Reaches step j first c = subst (λ k. Reaches step k first c) steps run in
      let last : c ≡ d = runs_end_once step (goes_function everywhere t.machine) j first c d moved further in
      let there : ComesOut t.machine n j d o =
      subst (λ k. ComesOut t.machine n k d o) steps (subst (λ (x : Configuration ℕ). ComesOut t.machine n i x o) last
      out)
      in
      (steps, last, outcome_once t.machine n j d o q there also)

  moments_one : IsOneAnswer (TellsMoments t n one two three)
  moments_one s u a b x y h k =
      let same = same_run h.steps k.steps h.last k.last h.outcome k.outcome h.in_time k.in_time h.run k.run h.comes_out
      k.comes_out
      in
      let moved : AreLines Line (suc k.steps) h.moments =
      subst (λ (i : ℕ). AreLines Line (suc i) h.moments) same.0 h.lines
      in
      let moments = lines_once Line (one_line t first) (suc k.steps) h.moments k.moments moved k.lines in
      record {
        statuses = h.status_is ∙ ap outcome_status same.2 ∙ sym k.status_is;
        texts = h.text_is ∙ (λ i. moments i ++ moments_outcome_line t (same.0 i) (same.1 i) (same.2 i)) ∙ sym k.text_is;
        places = h.silent ∙ sym k.silent;
      }

  pub moments_settled : IsDeterministic t.machine.rules → All (λ s. s ≢ 0) one → All (λ s. s ≢ 0) two →
      All (λ s. s ≢ 0) three → IsSettled (TellsMoments t n one two three)
  moments_settled apart l1 l2 l3 = record {
    some = moments_some apart l1 l2 l3;
    one = moments_one;
    status = λ s text told h. subst IsReplyStatus (sym h.status_is) (outcome_answers h.outcome);
  }

  -- ---- what is given

  -- all moments are told, and the last line was given whole, in part, or not
  pub moments_end : (c : Configuration ℕ) (o : Outcome) (steps : ℕ) (kept given : List ℕ)
      (old now new : Option (List ℕ))
      (result : Status) (before middle later : ℕ) (told : Option (List Place)) → steps ≤ n → Reaches step steps first c
      →
      ComesOut t.machine n steps c o → Grows old now given → AreLines Line (steps + 1) (given ++ kept) → before ≤ middle
      →
      OutcomeEnds (outcome_status o) result now new middle later (kept ++ moments_outcome_line t steps c o) →
      AnswerEnds (TellsMoments t n one two three) result old new before later told told
  moments_end c o steps kept given old now new result before middle later told early run out grown lines order ends =
      by ends
    where
      last : List ℕ
      last = kept ++ moments_outcome_line t steps c o

      text : List ℕ
      text = given ++ last

      all : AreLines Line (suc steps) (given ++ kept)
      all = subst (λ k. AreLines Line k (given ++ kept)) (add-one steps) lines

      right : (status : Status) → status ≡ outcome_status o → TellsMoments t n one two three status text []
      right status is = record {
        steps = steps;
        last = c;
        outcome = o;
        in_time = early;
        run = run;
        comes_out = out;
        moments = given ++ kept;
        lines = all;
        status_is = is;
        text_is = sym (append_assoc given kept (moments_outcome_line t steps c o));
        silent = refl;
      }

      in_part : GrowsByFront old new text → IsBegun (TellsMoments t n one two three) old new told told
      in_part grows = record {
        status = outcome_status o;
        text = text;
        places = [];
        right = right (outcome_status o) refl;
        grows = grows;
        front = [];
        rest = [];
        split = refl;
        hears = hears-nothing told;
      }

      by : OutcomeEnds (outcome_status o) result now new middle later last →
          AnswerEnds (TellsMoments t n one two three) result old new before later told told
      by (inl (written.whole meant grows)) =
          whole text [] (right result meant) (Grows-joins old now new given last grown grows) (hears-nothing told)
      by (inl (written.cut failed rose grows)) =
          cut failed (Rose-late before middle later order rose) (in_part (
            given ++ grows.0,
            grows.1,
            ap (λ (z : List ℕ). given ++ z) grows.2 ∙ sym (append_assoc given grows.0 grows.1),
            Grows-joins old now new given grows.0 grown grows.3,
          ))
      by (inr none) =
          wanting none.0 (begun (in_part (given, last, refl, subst (λ a. Grows old a given) (sym none.1) grown)))

  -- as many lines are told as a run has moments
  lines_few : (i k : ℕ) (c : Configuration ℕ) (o : Outcome) (text : List ℕ) → Reaches step i first c →
      ComesOut t.machine n i c o → k ≤ n + 1 → AreLines Line k text → k ≤ suc i
  lines_few i zero c o text run out few lines = omega arith
  lines_few i (suc j) c o text run out few lines =
      let h : j ≤ i = within i j c o run out (omega (arith, few)) lines.3.0 lines.3.1 in omega (arith, h)

  -- a front of the lines was given
  pub moments_begun : (number : ℕ) (told_lines : List ℕ) (old now : Option (List ℕ)) (told : Option (List Place)) →
      IsDeterministic t.machine.rules → All (λ s. s ≢ 0) one → All (λ s. s ≢ 0) two → All (λ s. s ≢ 0) three →
      number ≤ n + 1 → AreLines Line number told_lines → GrowsByFront old now told_lines →
      IsBegun (TellsMoments t n one two three) old now told told
  moments_begun number told_lines old now told apart l1 l2 l3 few lines g =
      let some = moments_some apart l1 l2 l3 in
      let h = some.3 in
      let count = lines_few h.steps number h.last h.outcome told_lines h.run h.comes_out few lines in
      let front = lines_front Line (one_line t first) number (suc h.steps) told_lines h.moments count lines h.lines in
      let tail = moments_outcome_line t h.steps h.last h.outcome in
      record {
        status = some.0;
        text = some.1;
        places = some.2;
        right = h;
        grows = (
          g.0,
          g.1 ++ (front.0 ++ tail),
          h.text_is ∙ ap (λ (z : List ℕ). z ++ tail) front.1 ∙ append_assoc told_lines front.0 tail
              ∙ ap (λ (z : List ℕ). z ++ (front.0 ++ tail)) g.2 ∙ append_assoc g.0 g.1 (front.0 ++ tail),
          g.3,
        );
        front = [];
        rest = some.2;
        split = refl;
        hears = hears-nothing told;
      }
