-- A trace that is given to a sink, whole or in part, is an answer or the front of one.
use Rattle.std.specs.Prelude.{◌≡◌, ◌≢◌, ℕ, suc, ◌+◌, ◌^◌, ◌<◌, ◌≤◌, List, [], ◌++◌, All, length, Option, Some, None}
use Rattle.std.specs.Prelude.{refl}
use Rattle.std.proofs.Common.{arith, inl, inr, sym, subst, ap, ◌∙◌, append_assoc, add-one}
use Rattle.bn_circuits.specs.declared.place.Place.{Place}
use Rattle.bn_io.specs.Told.{Grows, GrowsByFront}
use Rattle.bn_io.proofs.FaultsLemmas.{Rose-late}
use Rattle.bn_io.proofs.ToldLemmas.{Grows-joins}
use Rattle.bn_machine.specs.Machine.{Moment}
use Rattle.bn_machine.specs.Run.{Ending, HasEnding, Halted, Stuck, Running}
use Rattle.bn_machine.specs.Run as free
use Rattle.bn_machine.specs.Tape.{scanned}
use Rattle.bn_machine.proofs.OutputLemmas.{output_exists}
use Rattle.bn_circuits.proofs.WalkLemmas.{hears-nothing}
use Rattle.bn_table.specs.Rows.{IsTable, Named}
use Rattle.bn_reply.specs.Ends as written
use Rattle.bn_reply.specs.Streams.{AnswerEnds, IsBegun, begun, cut, wanting, whole}
use Rattle.bn_reply.specs.Words.{IsSpelledBy}
use Rattle.bn_reply.specs.declared.status.Status.{Status}
use Rattle.bn_reply_machines.specs.MachineReply.{ending_status}
use Rattle.bn_reply_traces.specs.MomentText.{AreLines, IsLineAfter, IsNext}
use Rattle.bn_reply_traces.specs.Stages.{AreTold, AreToldInPart, IsEndedAt, IsOutcome, IsRule, IsWordOf, OutcomeEnds}
use Rattle.bn_reply_traces.specs.TraceReply.{TellsTrace, outcome_line}
use Rattle.bn_reply_traces.specs.declared.stage.Stage.{Stage}
use Rattle.bn_reply_traces.proofs.MomentLemmas.{next_of, scans}
use Rattle.bn_reply_traces.proofs.TraceLemmas.{letters_of_word, lines_few, lines_front, trace_some}

-- the symbols that spell a word
pub word_of : (t : Named) (bytes symbols : List ℕ) → IsTable t → IsSpelledBy t bytes symbols → length symbols < 2 ^ 62 →
    IsWordOf t symbols
word_of t bytes symbols table h few = record {
  few = few;
  letters = letters_of_word t bytes symbols h;
  known = λ k d inside.
      let known = (h.symbols_known k d inside).known in
      let count = table.symbols in
      omega (arith, known, count);
}

-- how the run comes out
ended_as : (t : Named) (word : List ℕ) (n : ℕ) (s : Stage) (steps : ℕ) (rule : Option ℕ)
    → IsEndedAt t word n s steps rule →
    (e : Ending) × HasEnding t.machine word n steps e × IsOutcome t.machine s.state (scanned s.tape.tape) rule e
ended_as t word n s steps rule h = by rule h.next h.early
    (next_of t.machine h.stage.whole s.state (scanned s.tape.tape) rule h.stage.state (scans t word n steps s h.stage)
    h.next)
  where
    moment : Moment
    moment = h.stage.whole

    comes : (e : Ending) → free.EndsAt t.machine n steps moment e → HasEnding t.machine word n steps e
    comes e ends = record { moment = moment; run = h.stage.run; in_time = h.in_time; ends = ends }

    by : (rule : Option ℕ) → IsRule t.machine s.state (scanned s.tape.tape) rule → (steps < n → rule ≡ None) →
        IsNext t.machine moment rule →
        (e : Ending) × HasEnding t.machine word n steps e × IsOutcome t.machine s.state (scanned s.tape.tape) rule e
    by None is early (inl final) =
        let out = output_exists moment.tape in (
          Halted out.0,
          comes (Halted out.0) (free.halts out.0 final out.1 refl),
          inl (sym h.stage.state ∙ final, (out.0, refl)),
        )
    by None is early (inr stuck) = (
      Stuck s.state (scanned s.tape.tape),
      comes (Stuck s.state (scanned s.tape.tape)) (free.sticks stuck
          (λ i. Stuck (sym h.stage.state i) (sym (scans t word n steps s h.stage) i))),
      inr ((λ e. stuck.going (h.stage.state ∙ e)), refl),
    )
    by (Some m) is early goes =
        let late : (steps < n → ⊥) = λ less. absurd (cc (early less)) in
        let in_time = h.in_time in
        let all : steps ≡ n = omega (arith, in_time, late) in
        (Running, comes Running (free.runs goes.0 (m, goes.1) all refl), refl)

-- all moments are told, and the last line was given whole, in part, or not
pub trace_ends : (t : Named) (word : List ℕ) (n : ℕ) (s : Stage) (steps : ℕ) (rule : Option ℕ) (kept : List ℕ)
    (old now new : Option (List ℕ)) (result : Status) (before middle after : ℕ) (told : Option (List Place)) →
    AreTold t word old now kept (steps + 1) → IsEndedAt t word n s steps rule → before ≤ middle →
    ((e : Ending) → IsOutcome t.machine s.state (scanned s.tape.tape) rule e →
    OutcomeEnds (ending_status e) result now new middle after (kept ++ outcome_line t steps e)) →
    AnswerEnds (TellsTrace t n word) result old new before after told told
trace_ends t word n s steps rule kept old now new result before middle after told are at later tells =
    by (tells out.0 out.2)
  where
    out : (e : Ending) × HasEnding t.machine word n steps e × IsOutcome t.machine s.state (scanned s.tape.tape) rule e
    out = ended_as t word n s steps rule at

    last : List ℕ
    last = kept ++ outcome_line t steps out.0

    text : List ℕ
    text = are.given ++ last

    lines : AreLines (IsLineAfter t word) (suc steps) (are.given ++ kept)
    lines = subst (λ k. AreLines (IsLineAfter t word) k (are.given ++ kept)) (add-one steps) are.lines

    right : (status : Status) → status ≡ ending_status out.0 → TellsTrace t n word status text []
    right status is = record {
      steps = steps;
      ending = out.0;
      comes_out = out.1;
      moments = are.given ++ kept;
      lines = lines;
      status_is = is;
      text_is = sym (append_assoc are.given kept (outcome_line t steps out.0));
      silent = refl;
    }

    in_part : GrowsByFront old new text → IsBegun (TellsTrace t n word) old new told told
    in_part grows = record {
      status = ending_status out.0;
      text = text;
      places = [];
      right = right (ending_status out.0) refl;
      grows = grows;
      front = [];
      rest = [];
      split = refl;
      hears = hears-nothing told;
    }

    by : OutcomeEnds (ending_status out.0) result now new middle after last →
        AnswerEnds (TellsTrace t n word) result old new before after told told
    by (inl (written.whole meant grows)) =
        whole text [] (right result meant) (Grows-joins old now new are.given last are.grown grows) (hears-nothing told)
    by (inl (written.cut failed rose grows)) =
        cut failed (Rose-late before middle after later rose) (in_part (
          are.given ++ grows.0,
          grows.1,
          ap (λ (z : List ℕ). are.given ++ z) grows.2 ∙ sym (append_assoc are.given grows.0 grows.1),
          Grows-joins old now new are.given grows.0 are.grown grows.3,
        ))
    by (inr none) =
        wanting none.0 (begun (in_part (
          are.given,
          last,
          refl,
          subst (λ a. Grows old a are.given) (sym none.1) are.grown,
        )))

-- a front of the lines was given
pub trace_begun : (t : Named) (word : List ℕ) (n : ℕ) (old now : Option (List ℕ)) (told : Option (List Place)) →
    All (λ s. s ≢ 0) word → AreToldInPart t word n old now → IsBegun (TellsTrace t n word) old now told told
trace_begun t word n old now told letters part =
    let some = trace_some t n word letters in
    let h = some.3 in
    let few = lines_few t word n h.steps part.number h.ending part.text h.comes_out part.few part.lines in
    let front = lines_front t word part.number (suc h.steps) part.text h.moments few part.lines h.lines in
    let g = part.grown in
    let tail = outcome_line t h.steps h.ending in
    record {
      status = some.0;
      text = some.1;
      places = some.2;
      right = h;
      grows = (
        g.0,
        g.1 ++ (front.0 ++ tail),
        h.text_is ∙ ap (λ (z : List ℕ). z ++ tail) front.1 ∙ append_assoc part.text front.0 tail
            ∙ ap (λ (z : List ℕ). z ++ (front.0 ++ tail)) g.2 ∙ append_assoc g.0 g.1 (front.0 ++ tail),
        g.3,
      );
      front = [];
      rest = some.2;
      split = refl;
      hears = hears-nothing told;
    }
