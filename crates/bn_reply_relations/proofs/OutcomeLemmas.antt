-- What the text of a run tells is the outcome of the machine's own bounded run.
use Rattle.std.specs.Prelude.{◌≡◌, ◌≢◌, ◌↔◌, ◌⊎◌, ℕ, ◌+◌, ◌-◌, ◌*◌, ◌<◌, ◌≤◌, List, ◌++◌, length, drop, None}
use Rattle.std.proofs.Common.{arith, zero-add, sym, ap, subst, ◌∙◌, inl, inr}
use Rattle.std.proofs.lemmas.Bool.{cases_lt}
use Rattle.bn_circuits.specs.declared.place.Place.{Place}
use Rattle.bn_circuits.specs.declared.config.Config.{Config}
use Rattle.bn_circuits.proofs.RunPartLemmas.{steps_of_run}
use Rattle.bn_machine.specs.Tape.{word_tape, blank_tape}
use Rattle.bn_machine.specs.Machine.{Program}
use Rattle.bn_machine.specs.Outcome as outcome
use Rattle.bn_machine.specs.Outcome.{Limits, Outcome, HasOutcome}
use Rattle.bn_machine.proofs.OutcomeLemmas.{outcome_exists}
use Rattle.bn_table.specs.Laws.{TablesAreMachines}
use Rattle.bn_table.specs.Rows.{Named}
use Rattle.bn_bennett_laws.specs.declared.name.Name.{Name}
use Rattle.bn_bennett.specs.Meaning.{machine_state_by}
use Rattle.bn_boards.specs.declared.exit.Exit.{Exit}
use Rattle.bn_boards.specs.declared.exit.Exit.TheVariants as exit
use Rattle.bn_boards.specs.declared.spelled.Spelled.{Spelled}
use Rattle.bn_boards.specs.declared.spelled.SpelledTape.{SpelledTape}
use Rattle.bn_boards.specs.Layouts.{IsNamedExit, moments, spelled_by, spelled_tape, spelled_tapes, tape_in, inside}
use Rattle.bn_boards.specs.Flats.{Flat, IsFlatOf, flat_start}
use Rattle.bn_boards.specs.LayoutLaws.{ExitsAreOne}
use Rattle.bn_boards.specs.Boards.{size}
use Rattle.bn_boards.specs.Costs.{bound_of}
use Rattle.bn_boards.specs.BoardRuns.{EndsWith, IsExitFor, RunsToExit}
use Rattle.bn_boards.specs.RunLaws.{BoardsRunToTheirExit}
use Rattle.bn_boards.proofs.CountLemmas.{before_end, costs-one, places_stop}
use Rattle.bn_boards.proofs.OutcomeLemmas.{at_cost, not_unnamed}
use Rattle.bn_reply.specs.declared.status.Status.TheVariants as statuses
use Rattle.bn_reply_relations.specs.Counts.{Counts}
use Rattle.bn_reply_relations.specs.RunText.{elements_line, exit_line, output_from, output_line, quadruple_line}
use Rattle.bn_reply_relations.specs.RunText.{rest_text}
use Rattle.bn_reply_relations.specs.RunText.{run_text, shown_lines, state_text, steps_line, stuck_line, tape_lines}
use Rattle.bn_reply_relations.specs.RunReply.{HasMoment, TellsRun, board_after, exit_status}
use Rattle.bn_reply_relations.specs.ToldRuns.{outcome_line, outcome_rest, outcome_status}
use Rattle.bn_reply_relations.specs.Laws.{MomentsAreCounted, RunsStopWithin, RunsTellOutcomes}
use Rattle.bn_reply_relations.proofs.CountLemmas.{counts_once}
use Rattle.bn_reply_relations.proofs.OutputLemmas.{output-read, halted_fits}
use Rattle.bn_reply_relations.proofs.RunLemmas.{named_of}
use Rattle.bn_reply_relations.proofs.WindowLemmas.{given_accepted}

-- ---- exits

not_inside : (f : Flat) (o : Outcome) (e : Exit) → IsExitFor f o e → exit_status e ≢ statuses.Inside
not_inside f (outcome.Halted y) e is h = let both : statuses.Done ≡ statuses.Inside = ap exit_status (sym is) ∙ h in cc
not_inside f (outcome.Stuck j c) e is h = let both : statuses.Stuck ≡ statuses.Inside =
    ap exit_status (sym is.2) ∙ h in cc
not_inside f (outcome.Outside n s) e is h = let both : statuses.Window ≡ statuses.Inside =
    ap exit_status (sym is) ∙ h in cc

-- where the exit is the outcome's, so are its line and its status
exit_told : (t : Named) (f : Flat) (o : Outcome) (at : Place) (e : Exit) → IsExitFor f o e
    → exit_line t f at e ≡ outcome_line t o
exit_told t f (outcome.Halted y) at e is = ap (exit_line t f at) is
exit_told t f (outcome.Stuck j c) at e is =
    ap (exit_line t f at) is.2 ∙ ap (λ (n : Name). stuck_line t
    (state_text t (machine_state_by f.translation.final_state n)) c) is.1
exit_told t f (outcome.Outside n s) at e is = ap (exit_line t f at) is

status_told : (f : Flat) (o : Outcome) (e : Exit) → IsExitFor f o e → exit_status e ≡ outcome_status o
status_told f (outcome.Halted y) e is = ap exit_status is
status_told f (outcome.Stuck j c) e is = ap exit_status is.2
status_told f (outcome.Outside n s) e is = ap exit_status is

-- the exit with a name that the run comes to, from its cost on
ran_exit : (p : Program) (f : Flat) (i : ℕ) (o : Outcome) (ran : RunsToExit p f i o) (n : ℕ) → ran.cost ≤ n
    → IsNamedExit f.layout (board_after f n).place ran.exit
ran_exit p f i o ran n low =
    let there : IsNamedExit f.layout (board_after f ran.cost).place ran.exit =
    named_of f.layout (board_after f ran.cost).place ran.exit ran.is_exit (not_unnamed f o ran.exit ran.for_outcome) in
    subst (λ (c : Config). IsNamedExit f.layout c.place ran.exit) (sym (at_cost p f i o ran n low)) there

-- ---- the lines behind that of the steps

module _ (t : Named) (p : Program) (symbols : List ℕ) (l : Limits) (f : Flat) (flat : IsFlatOf p symbols l f) where
  -- at the end: what the restored tapes show, and the number of moments less one
  end_told : (i : ℕ) (y : List ℕ) (cost k : ℕ) (d : Config) → EndsWith p f d i (outcome.Halted y)
      → HasOutcome p symbols l i (outcome.Halted y) →
      k ≡ moments f.layout f.circuit d.steps (flat_start f) → rest_text t f d (k - 1) exit.End
      ≡ outcome_rest t l symbols f cost i (outcome.Halted y)
  end_told i y cost k d shown comes count =
      let spells = shown.0.spells in
      let tapes : spelled_by f.layout d.states ≡ spelled_tapes l (word_tape symbols, blank_tape, word_tape y) = spells
      ∙ (λ j. spelled_tapes (flat.limits_are j) (word_tape (flat.word_is j), blank_tape, word_tape y)) in
      let three : spelled_tape f.layout d.states 3 ≡ tape_in 0 (l.output + 1) (word_tape y) =
      ap (λ (s : Spelled). s.three) tapes in
      let fits = halted_fits p symbols l i y comes in
      let output : output_from (drop 1 (spelled_tape f.layout d.states 3).cells) ≡ y =
      ap (λ (s : SpelledTape). output_from (drop 1 s.cells)) three
      ∙ output-read l y fits.0 fits.1 in
      let steps : k - 1 ≡ 4 * i + 4 * length y + 5 = one_less k (4 * i + 4 * length y) (count ∙ shown.1) in
      λ j. quadruple_line (steps j) ++ (tape_lines t (tapes j).one (tapes j).two (tapes j).three
      ++ output_line t (output j))
    where
      one_less : (a b : ℕ) → a ≡ b + 6 → a - 1 ≡ b + 5
      one_less a b e = omega arith

  rest_told : (i : ℕ) (o : Outcome) (cost k : ℕ) (d : Config) (e : Exit) → d ≡ board_after f cost → IsExitFor f o e
      → EndsWith p f d i o → HasOutcome p symbols l i o →
      k ≡ moments f.layout f.circuit d.steps (flat_start f) → rest_text t f d (k - 1) e
      ≡ outcome_rest t l symbols f cost i o
  rest_told i (outcome.Halted y) cost k d e is for shown comes count =
      ap (rest_text t f d (k - 1)) for ∙ end_told i y cost k d shown comes count
  rest_told i (outcome.Stuck j c) cost k d e is for shown comes count =
      ap (rest_text t f d (k - 1)) for.2 ∙ ap (λ (x : Config). shown_lines t f x.states) is
  rest_told i (outcome.Outside n s) cost k d e is for shown comes count =
      ap (rest_text t f d (k - 1)) for ∙ ap (λ (x : Config). shown_lines t f x.states) is

-- ---- runs

pub runs-tell_outcomes : TablesAreMachines → ExitsAreOne → BoardsRunToTheirExit → MomentsAreCounted → RunsTellOutcomes
runs-tell_outcomes machines exits boards counts bytes letters l t symbols f status text told given comes tells i o
    outcome =
    let flat = comes.flat in
    let accepted = given_accepted machines bytes letters l t symbols f given comes in
    let ran = boards t.machine symbols l f flat accepted i o outcome in
    let d = board_after f (bound_of f.layout) in
    let there : d ≡ board_after f ran.cost = at_cost t.machine f i o ran (bound_of f.layout) ran.bounded in
    let one : tells.exit ≡ ran.exit = exits t.machine symbols l f flat accepted d.place tells.exit ran.exit
    tells.is_exit
    (ran_exit t.machine f i o ran (bound_of f.layout) ran.bounded) in
    let for_exit : IsExitFor f o tells.exit = subst (IsExitFor f o) (sym one) ran.for_outcome in
    let steps : d.steps ≡ ran.cost = ap (λ (x : Config). x.steps) there
    ∙ steps_of_run f.circuit ran.cost (flat_start f) (board_after f ran.cost) ran.run_to
    ∙ zero-add ran.cost in
    let shown : EndsWith t.machine f d i o = subst (λ (x : Config). EndsWith t.machine f x i o) (sym there)
    ran.with_tapes in
    let count = counts_once (HasMoment f) (d.steps + 1) tells.moments
    (moments f.layout f.circuit d.steps (flat_start f)) tells.counted
    (counts t.machine symbols l f flat accepted (bound_of f.layout)).0 in
    let rest = rest_told t t.machine symbols l f flat i o ran.cost tells.moments d tells.exit there for_exit shown
    outcome count in
    let exit_is = exit_told t f o d.place tells.exit for_exit in
    record {
      cost = ran.cost;
      has_cost = ran.has_cost;
      bounded = ran.bounded;
      status_is = tells.status_is ∙ status_told f o tells.exit for_exit;
      text_is = tells.text_is ∙ (λ k. elements_line (size f.network.tables)
          ++ (exit_is k ++ (steps_line (steps k) ++ rest k)));
    }

-- ---- with a number of steps

pub runs-stop_within : TablesAreMachines → ExitsAreOne → BoardsRunToTheirExit → RunsStopWithin
runs-stop_within machines exits boards bytes letters l t symbols f e status text told given comes tells cost has_cost =
    let accepted = given_accepted machines bytes letters l t symbols f given comes in
    let some = outcome_exists t.machine symbols l in
    let ran = boards t.machine symbols l f comes.flat accepted some.0 some.1 some.2 in
    let same : ran.cost ≡ cost = costs-one f ran.cost cost ran.has_cost has_cost in
    by_order some.0 some.1 ran same (exits t.machine symbols l f comes.flat accepted) (cases_lt e cost)
  where
    d : Config
    d = board_after f e

    -- below the cost the signal is inside
    begun : (i : ℕ) (o : Outcome) (ran : RunsToExit t.machine f i o) → ran.cost ≡ cost →
        ((at : Place) (e x : Exit) → IsNamedExit f.layout at e → IsNamedExit f.layout at x → e ≡ x) →
        e < cost → tells.exit ≡ exit.Inside
    begun i o ran same one low =
        let before = before_end f.circuit ran.cost e (flat_start f) (board_after f ran.cost) ran.run_to (omega arith) in
        one d.place tells.exit exit.Inside tells.is_exit (inside before.0 before.1 before.2)

    -- from the cost on it has left
    ended : (i : ℕ) (o : Outcome) (ran : RunsToExit t.machine f i o) → ran.cost ≡ cost →
        ((at : Place) (e x : Exit) → IsNamedExit f.layout at e → IsNamedExit f.layout at x → e ≡ x) →
        cost ≤ e → IsExitFor f o tells.exit
    ended i o ran same one low =
        subst (IsExitFor f o) (sym (one d.place tells.exit ran.exit tells.is_exit
        (ran_exit t.machine f i o ran e (omega arith)))) ran.for_outcome

    unbounded : (i : ℕ) (o : Outcome) (ran : RunsToExit t.machine f i o) → ran.cost ≡ cost → cost ≤ e
        → TellsRun None t f status text told
    unbounded i o ran same low =
        let here : d ≡ board_after f (bound_of f.layout) = at_cost t.machine f i o ran e (omega arith)
        ∙ sym (at_cost t.machine f i o ran (bound_of f.layout) ran.bounded) in
        let told_alike = places_stop f.circuit ran.cost e (bound_of f.layout) (flat_start f) (board_after f ran.cost)
        ran.run_to ran.ended
        (omega arith) ran.bounded in
        record {
          exit = tells.exit;
          is_exit = subst (λ (x : Config). IsNamedExit f.layout x.place tells.exit) here tells.is_exit;
          moments = tells.moments;
          counted = subst (λ (x : Config). Counts (HasMoment f) (x.steps + 1) tells.moments) here tells.counted;
          status_is = tells.status_is;
          text_is = tells.text_is ∙ ap (λ (x : Config). run_text t f x (tells.moments - 1) tells.exit) here;
          told_is = tells.told_is ∙ told_alike;
        }

    by_order : (i : ℕ) (o : Outcome) (ran : RunsToExit t.machine f i o) → ran.cost ≡ cost →
        ((at : Place) (e x : Exit) → IsNamedExit f.layout at e → IsNamedExit f.layout at x → e ≡ x) →
        (e < cost) ⊎ (cost ≤ e) → ((status ≡ statuses.Inside) ↔ (e < cost))
        × (cost ≤ e → TellsRun None t f status text told)
        × (e < cost → text ≡ run_text t f d 0 exit.Inside)
    by_order i o ran same one (inl low) =
        let is = begun i o ran same one low in (
          ((λ _. low), (λ _. tells.status_is ∙ ap exit_status is)),
          (λ high. absurd (omega arith)),
          (λ _. tells.text_is ∙ ap (run_text t f d (tells.moments - 1)) is),
        )
    by_order i o ran same one (inr high) =
        let left : status ≢ statuses.Inside = λ h. not_inside f o tells.exit (ended i o ran same one high)
        (sym tells.status_is ∙ h) in (
          ((λ h. absurd (left h)), (λ low. absurd (omega arith))),
          (λ _. unbounded i o ran same high),
          (λ low. absurd (omega arith)),
        )
