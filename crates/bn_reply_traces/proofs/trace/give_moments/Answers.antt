use Rattle.std.specs.Prelude.{◌≡◌, Err, IsErrOf, refl, ℕ, Some}
use Rattle.std.proofs.Common.{arith, sym, subst, ap, ◌∙◌}
use Rattle.std.proofs.lemmas.Result.{err_from_is_err_and}
use Rattle.bn_io.proofs.FaultsLemmas.{Rose-late}
use Rattle.bn_reply.proofs.CountLemmas.{counts_after, counts_as, counts_nothing}
use Rattle.bn_machine.specs.Machine.{IsLeaving, Program}
use Rattle.bn_machine.specs.Tape.{scanned}
use Rattle.bn_reply_traces.specs.Stages.{AreTold, IsRule, IsStageAfter}
use Rattle.bn_reply_traces.specs.declared.trace.Unfinished.TheVariants.{WriteFault}
use Rattle.bn_reply_traces.proofs.MomentLemmas.{moment_cut, moment_told, none_of, showable, some_of, stays_inside}
use Rattle.bn_reply_traces.proofs.MomentLemmas.{told_none}
use Rattle.bn_reply_traces.proofs.PassedLemmas.{passed_on}
use Rattle.bn_reply_traces.proofs.trace.give_moments.Goals as goal

pub loop-steps-init : goal.loop-steps-init
loop-steps-init g c =
    let t = c.args.table.now in (
      told_none t c.args.word.now (g.K.Sink.taken c.args.sink.now) c.args.text.now.items c.requires.empty,
      c.requires.start,
      refl,
    )

pub tell_moment-requires-clause-stage : goal.tell_moment-requires-clause-stage
tell_moment-requires-clause-stage g c =
    showable c.args.table.now c.args.word.now c.args.most_steps c.loop-steps.steps c.loop-steps.stage c.requires.table
    c.requires.word c.loop-steps.invariant.1

pub returns-in_err-rule-clause-front : goal.returns-in_err-rule-clause-front
returns-in_err-rule-clause-front g c =
    let i = c.loop-steps.invariant in
    let p = err_from_is_err_and c.from_residual.result c.from_residual.ensures.1 in
    rw p.1 (moment_cut c.args.table.now c.args.word.now c.args.most_steps c.loop-steps.steps c.loop-steps.stage i.1
    (g.K.Sink.taken c.args.sink.now) (g.K.Sink.taken c.loop-steps.sink) (g.K.Sink.taken c.tell_moment.new.sink)
    c.loop-steps.text.items i.0 (omega (arith, c.loop-steps-test.true)) c.in_err-rule.ensures.front)

pub returns-in_err-rule-clause-later : goal.returns-in_err-rule-clause-later
returns-in_err-rule-clause-later g c =
    let p = err_from_is_err_and c.from_residual.result c.from_residual.ensures.1 in
    counts_after _ (g.K.Sink.faults c.args.sink.now) (g.K.Sink.faults c.loop-steps.sink)
    (g.K.Sink.faults c.tell_moment.new.sink) c.loop-steps.invariant.2
    (counts_as _ _ (g.K.Sink.faults c.loop-steps.sink) (g.K.Sink.faults c.tell_moment.new.sink)
    (λ failed. p.1 ∙ passed_on p.0 _ WriteFault p.2 failed) c.in_err-rule.ensures.later)

pub returns-in_err-rule-clause-write_fault : goal.returns-in_err-rule-clause-write_fault
returns-in_err-rule-clause-write_fault g c = λ is.
    let p = err_from_is_err_and c.from_residual.result c.from_residual.ensures.1 in
    let told = subst (λ r. IsErrOf r WriteFault) p.1 is in
    let failed : p.0 ≡ WriteFault = cc told in
    Rose-late (g.K.Sink.faults c.args.sink.now) (g.K.Sink.faults c.loop-steps.sink)
    (g.K.Sink.faults c.tell_moment.new.sink) (omega (arith, c.loop-steps.invariant.2))
    (c.in_err-rule.ensures.write_fault (ap (λ z. Err z) (sym p.2 ∙ failed)))

pub returns-then-is_none-clause-told : goal.returns-then-is_none-clause-told
returns-then-is_none-clause-told g c =
    let i = c.loop-steps.invariant in
    moment_told c.args.table.now c.args.word.now c.args.most_steps c.loop-steps.steps c.loop-steps.stage i.1
    (g.K.Sink.taken c.args.sink.now) (g.K.Sink.taken c.loop-steps.sink) (g.K.Sink.taken c.tell_moment.new.sink)
    c.loop-steps.text.items i.0 c.tell_moment.new.text.items c.in_ok-rule.rule c.in_ok-rule.ensures.rule
    c.in_ok-rule.ensures.told

pub returns-then-is_none-clause-at : goal.returns-then-is_none-clause-at
returns-then-is_none-clause-at g c = record {
  stage = c.loop-steps.invariant.1;
  next = c.in_ok-rule.ensures.rule;
  in_time = omega (arith, c.loop-steps-test.true);
  early = λ _. none_of c.in_ok-rule.rule c.is_none.result c.is_none.ensures c.if-is_none.true;
}

pub returns-then-is_none-clause-later : goal.returns-then-is_none-clause-later
returns-then-is_none-clause-later g c =
    counts_nothing _ (g.K.Sink.faults c.args.sink.now) (g.K.Sink.faults c.tell_moment.new.sink)
    (c.in_ok-rule.ensures.later.stays (λ e. cc) ∙ c.loop-steps.invariant.2)

pub go_on-requires-clause-rule : goal.go_on-requires-clause-rule
go_on-requires-clause-rule g c =
    let s = c.loop-steps.stage in
    subst (λ (p : Program). (n : ℕ) × IsRule p s.state (scanned s.tape.tape) (Some n)) (sym c.machine.ensures.value)
    (some_of c.args.table.now.machine s.state (scanned s.tape.tape) c.in_ok-rule.rule c.is_none.result c.is_none.ensures
    c.if-is_none.false c.in_ok-rule.ensures.rule)

pub go_on-requires-clause-stays : goal.go_on-requires-clause-stays
go_on-requires-clause-stays g c =
    let stays = stays_inside c.args.table.now c.args.word.now c.args.most_steps c.loop-steps.steps c.loop-steps.stage
    c.requires.few (omega (arith, c.loop-steps-test.true)) c.loop-steps.invariant.1
    in
    λ side leaving. stays side (subst (λ (p : Program). IsLeaving p c.loop-steps.stage.state c.loop-steps.stage.tape
    side)
    c.machine.ensures.value leaving)

pub loop-steps-preserved : goal.loop-steps-preserved
loop-steps-preserved g c =
    let i = c.loop-steps.invariant in (
      moment_told c.args.table.now c.args.word.now c.args.most_steps c.loop-steps.steps c.loop-steps.stage i.1
          (g.K.Sink.taken c.args.sink.now) (g.K.Sink.taken c.loop-steps.sink) (g.K.Sink.taken c.tell_moment.new.sink)
          c.loop-steps.text.items i.0 c.tell_moment.new.text.items c.in_ok-rule.rule c.in_ok-rule.ensures.rule
          c.in_ok-rule.ensures.told,
      c.go_on.ensures c.args.table.now c.args.word.now c.args.most_steps c.loop-steps.steps
          (sym c.machine.ensures.value) c.loop-steps-test.true c.requires.few i.1,
      c.in_ok-rule.ensures.later.stays (λ e. cc) ∙ i.2,
    )

pub tell_moment-requires-2-clause-stage : goal.tell_moment-requires-2-clause-stage
tell_moment-requires-2-clause-stage g c =
    showable c.args.table.now c.args.word.now c.args.most_steps c.loop-steps.steps c.loop-steps.stage c.requires.table
    c.requires.word c.loop-steps.invariant.1

pub returns-in_err-rule-2-clause-front : goal.returns-in_err-rule-2-clause-front
returns-in_err-rule-2-clause-front g c =
    let i = c.loop-steps.invariant in
    let n = c.args.most_steps in
    let all : c.loop-steps.steps ≡ n = omega (arith, c.loop-steps-test.false, c.loop-steps.auto.steps-end) in
    let p = err_from_is_err_and c.from_residual-in_err-rule-2.result c.from_residual-in_err-rule-2.ensures.1 in
    rw p.1 (moment_cut c.args.table.now c.args.word.now n n c.loop-steps.stage
    (subst (λ k. IsStageAfter c.args.table.now c.args.word.now n k c.loop-steps.stage) all i.1)
    (g.K.Sink.taken c.args.sink.now) (g.K.Sink.taken c.loop-steps.sink) (g.K.Sink.taken c.tell_moment-2.new.sink)
    c.loop-steps.text.items
    (subst (λ k. AreTold c.args.table.now c.args.word.now (g.K.Sink.taken c.args.sink.now)
    (g.K.Sink.taken c.loop-steps.sink)
    c.loop-steps.text.items k) all i.0) (omega arith) c.in_err-rule-2.ensures.front)

pub returns-in_err-rule-2-clause-later : goal.returns-in_err-rule-2-clause-later
returns-in_err-rule-2-clause-later g c =
    let p = err_from_is_err_and c.from_residual-in_err-rule-2.result c.from_residual-in_err-rule-2.ensures.1 in
    counts_after _ (g.K.Sink.faults c.args.sink.now) (g.K.Sink.faults c.loop-steps.sink)
    (g.K.Sink.faults c.tell_moment-2.new.sink) c.loop-steps.invariant.2
    (counts_as _ _ (g.K.Sink.faults c.loop-steps.sink) (g.K.Sink.faults c.tell_moment-2.new.sink)
    (λ failed. p.1 ∙ passed_on p.0 _ WriteFault p.2 failed) c.in_err-rule-2.ensures.later)

pub returns-in_err-rule-2-clause-write_fault : goal.returns-in_err-rule-2-clause-write_fault
returns-in_err-rule-2-clause-write_fault g c = λ is.
    let p = err_from_is_err_and c.from_residual-in_err-rule-2.result c.from_residual-in_err-rule-2.ensures.1 in
    let told = subst (λ r. IsErrOf r WriteFault) p.1 is in
    let failed : p.0 ≡ WriteFault = cc told in
    Rose-late (g.K.Sink.faults c.args.sink.now) (g.K.Sink.faults c.loop-steps.sink)
    (g.K.Sink.faults c.tell_moment-2.new.sink) (omega (arith, c.loop-steps.invariant.2))
    (c.in_err-rule-2.ensures.write_fault (ap (λ z. Err z) (sym p.2 ∙ failed)))

pub returns-clause-told : goal.returns-clause-told
returns-clause-told g c =
    let i = c.loop-steps.invariant in
    let n = c.args.most_steps in
    let all : c.loop-steps.steps ≡ n = omega (arith, c.loop-steps-test.false, c.loop-steps.auto.steps-end) in
    moment_told c.args.table.now c.args.word.now n n c.loop-steps.stage
    (subst (λ k. IsStageAfter c.args.table.now c.args.word.now n k c.loop-steps.stage) all i.1)
    (g.K.Sink.taken c.args.sink.now) (g.K.Sink.taken c.loop-steps.sink) (g.K.Sink.taken c.tell_moment-2.new.sink)
    c.loop-steps.text.items
    (subst (λ k. AreTold c.args.table.now c.args.word.now (g.K.Sink.taken c.args.sink.now)
    (g.K.Sink.taken c.loop-steps.sink)
    c.loop-steps.text.items k) all i.0) c.tell_moment-2.new.text.items c.in_ok-rule-2.rule c.in_ok-rule-2.ensures.rule
    c.in_ok-rule-2.ensures.told

pub returns-clause-at : goal.returns-clause-at
returns-clause-at g c =
    let n = c.args.most_steps in
    let all : c.loop-steps.steps ≡ n = omega (arith, c.loop-steps-test.false, c.loop-steps.auto.steps-end) in
    record {
      stage = subst (λ k. IsStageAfter c.args.table.now c.args.word.now n k c.loop-steps.stage) all
          c.loop-steps.invariant.1;
      next = c.in_ok-rule-2.ensures.rule;
      in_time = omega arith;
      early = λ h. absurd (omega (arith, h));
    }

pub returns-clause-later : goal.returns-clause-later
returns-clause-later g c =
    counts_nothing _ (g.K.Sink.faults c.args.sink.now) (g.K.Sink.faults c.tell_moment-2.new.sink)
    (c.in_ok-rule-2.ensures.later.stays (λ e. cc) ∙ c.loop-steps.invariant.2)
