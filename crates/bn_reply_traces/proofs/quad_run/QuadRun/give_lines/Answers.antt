use Rattle.std.specs.Prelude.{◌≡◌, Err, IsErrOf, refl}
use Rattle.std.proofs.Common.{arith, sym, subst, ap, ◌∙◌}
use Rattle.std.proofs.lemmas.Result.{err_from_is_err_and}
use Rattle.bn_io.proofs.FaultsLemmas.{Rose-late}
use Rattle.bn_reply.proofs.CountLemmas.{counts_after, counts_as, counts_nothing}
use Rattle.bn_reply_traces.specs.QuadStages.{AreQuadTold, IsSomeStage, first_of}
use Rattle.bn_reply_traces.specs.declared.trace.Unfinished.TheVariants.{WriteFault}
use Rattle.bn_reply_traces.proofs.MomentLemmas.{none_of}
use Rattle.bn_reply_traces.proofs.PassedLemmas.{passed_on}
use Rattle.bn_reply_traces.proofs.QuadGivenLemmas.{ends_early, ends_last, quad_told_more, quad_told_none}
use Rattle.bn_reply_traces.proofs.QuadGivenLemmas.{quad_told_part, some_next}
use Rattle.bn_reply_traces.proofs.quad_run.QuadRun.give_lines.Goals as goal

pub loop-steps-init : goal.loop-steps-init
loop-steps-init g c =
    let r = c.args.self.now in (
      quad_told_none r (g.K.Sink.taken c.args.sink.now) c.args.text.now.items c.requires.empty,
      (first_of r.machine.now r.words, c.requires.start),
      refl,
    )

pub returns-in_err-rule-clause-front : goal.returns-in_err-rule-clause-front
returns-in_err-rule-clause-front g c =
    let i = c.loop-steps.invariant in
    let p = err_from_is_err_and c.from_residual.result c.from_residual.ensures.1 in
    rw p.1 (quad_told_part c.args.self.now (g.K.Sink.taken c.args.sink.now) (g.K.Sink.taken c.loop-steps.sink)
    (g.K.Sink.taken c.tell_moment.new.sink) c.loop-steps.text.items c.loop-steps.steps
    (omega (arith, c.loop-steps-test.true)) i.0
    c.in_err-rule.ensures.front)

pub returns-in_err-rule-clause-later : goal.returns-in_err-rule-clause-later
returns-in_err-rule-clause-later g c =
    let p = err_from_is_err_and c.from_residual.result c.from_residual.ensures.1 in
    counts_after _ (g.K.Sink.faults c.args.sink.now) (g.K.Sink.faults c.loop-steps.sink)
    (g.K.Sink.faults c.tell_moment.new.sink) c.loop-steps.invariant.2
    (counts_as _ _ (g.K.Sink.faults c.loop-steps.sink) (g.K.Sink.faults c.tell_moment.new.sink)
    (λ failed. p.1 ∙ passed_on p.0 _ WriteFault p.2 failed) c.in_err-rule.ensures.later)

pub returns-in_err-rule-clause-write_fault : goal.returns-in_err-rule-clause-write_fault
returns-in_err-rule-clause-write_fault g c = λ is.
    let p = err_from_is_err_and c.from_residual.result c.from_residual.ensures.1 in
    let told = subst (λ r. IsErrOf r WriteFault) p.1 is in
    let failed : p.0 ≡ WriteFault = cc told in
    Rose-late (g.K.Sink.faults c.args.sink.now) (g.K.Sink.faults c.loop-steps.sink)
    (g.K.Sink.faults c.tell_moment.new.sink) (omega (arith, c.loop-steps.invariant.2))
    (c.in_err-rule.ensures.write_fault (ap (λ z. Err z) (sym p.2 ∙ failed)))

pub returns-then-is_none-clause-told : goal.returns-then-is_none-clause-told
returns-then-is_none-clause-told g c =
    quad_told_more c.args.self.now (g.K.Sink.taken c.args.sink.now) (g.K.Sink.taken c.loop-steps.sink)
    (g.K.Sink.taken c.tell_moment.new.sink) c.loop-steps.text.items c.tell_moment.new.text.items c.loop-steps.steps
    c.loop-steps.invariant.0 c.in_ok-rule.ensures.told

pub returns-then-is_none-clause-at : goal.returns-then-is_none-clause-at
returns-then-is_none-clause-at g c =
    ends_early c.args.self.now c.loop-steps.steps c.loop-steps.stage c.tell_moment.new.stage c.in_ok-rule.rule
    (omega (arith, c.loop-steps-test.true))
    (none_of c.in_ok-rule.rule c.is_none.result c.is_none.ensures c.if-is_none.true) c.loop-steps.invariant.1
    c.in_ok-rule.ensures.stepped

pub returns-then-is_none-clause-later : goal.returns-then-is_none-clause-later
returns-then-is_none-clause-later g c =
    counts_nothing _ (g.K.Sink.faults c.args.sink.now) (g.K.Sink.faults c.tell_moment.new.sink)
    (c.in_ok-rule.ensures.later.stays (λ e. cc) ∙ c.loop-steps.invariant.2)

pub loop-steps-preserved : goal.loop-steps-preserved
loop-steps-preserved g c =
    let i = c.loop-steps.invariant in (
      quad_told_more c.args.self.now (g.K.Sink.taken c.args.sink.now) (g.K.Sink.taken c.loop-steps.sink)
          (g.K.Sink.taken c.tell_moment.new.sink) c.loop-steps.text.items c.tell_moment.new.text.items
          c.loop-steps.steps i.0
          c.in_ok-rule.ensures.told,
      some_next c.args.self.now c.loop-steps.steps c.loop-steps.stage c.tell_moment.new.stage c.in_ok-rule.rule
          c.is_none.result c.is_none.ensures c.if-is_none.false i.1 c.in_ok-rule.ensures.stepped,
      c.in_ok-rule.ensures.later.stays (λ e. cc) ∙ i.2,
    )

pub returns-in_err-rule-2-clause-front : goal.returns-in_err-rule-2-clause-front
returns-in_err-rule-2-clause-front g c =
    let i = c.loop-steps.invariant in
    let r = c.args.self.now in
    let all : c.loop-steps.steps ≡ r.most_steps = omega (arith, c.loop-steps-test.false, c.loop-steps.auto.steps-end) in
    let p = err_from_is_err_and c.from_residual-in_err-rule-2.result c.from_residual-in_err-rule-2.ensures.1 in
    rw p.1 (quad_told_part r (g.K.Sink.taken c.args.sink.now) (g.K.Sink.taken c.loop-steps.sink)
    (g.K.Sink.taken c.tell_moment-2.new.sink) c.loop-steps.text.items r.most_steps (omega arith)
    (subst (λ k. AreQuadTold r (g.K.Sink.taken c.args.sink.now) (g.K.Sink.taken c.loop-steps.sink)
    c.loop-steps.text.items k) all i.0)
    c.in_err-rule-2.ensures.front)

pub returns-in_err-rule-2-clause-later : goal.returns-in_err-rule-2-clause-later
returns-in_err-rule-2-clause-later g c =
    let p = err_from_is_err_and c.from_residual-in_err-rule-2.result c.from_residual-in_err-rule-2.ensures.1 in
    counts_after _ (g.K.Sink.faults c.args.sink.now) (g.K.Sink.faults c.loop-steps.sink)
    (g.K.Sink.faults c.tell_moment-2.new.sink) c.loop-steps.invariant.2
    (counts_as _ _ (g.K.Sink.faults c.loop-steps.sink) (g.K.Sink.faults c.tell_moment-2.new.sink)
    (λ failed. p.1 ∙ passed_on p.0 _ WriteFault p.2 failed) c.in_err-rule-2.ensures.later)

pub returns-in_err-rule-2-clause-write_fault : goal.returns-in_err-rule-2-clause-write_fault
returns-in_err-rule-2-clause-write_fault g c = λ is.
    let p = err_from_is_err_and c.from_residual-in_err-rule-2.result c.from_residual-in_err-rule-2.ensures.1 in
    let told = subst (λ r. IsErrOf r WriteFault) p.1 is in
    let failed : p.0 ≡ WriteFault = cc told in
    Rose-late (g.K.Sink.faults c.args.sink.now) (g.K.Sink.faults c.loop-steps.sink)
    (g.K.Sink.faults c.tell_moment-2.new.sink) (omega (arith, c.loop-steps.invariant.2))
    (c.in_err-rule-2.ensures.write_fault (ap (λ z. Err z) (sym p.2 ∙ failed)))

pub tell_moment-requires-2-clause-stage : goal.tell_moment-requires-2-clause-stage
tell_moment-requires-2-clause-stage g c =
    let r = c.args.self.now in
    let all : c.loop-steps.steps ≡ r.most_steps = omega (arith, c.loop-steps-test.false, c.loop-steps.auto.steps-end) in
    subst (λ k. IsSomeStage r k c.loop-steps.stage) all c.loop-steps.invariant.1

pub returns-clause-told : goal.returns-clause-told
returns-clause-told g c =
    let i = c.loop-steps.invariant in
    let r = c.args.self.now in
    let all : c.loop-steps.steps ≡ r.most_steps = omega (arith, c.loop-steps-test.false, c.loop-steps.auto.steps-end) in
    quad_told_more r (g.K.Sink.taken c.args.sink.now) (g.K.Sink.taken c.loop-steps.sink)
    (g.K.Sink.taken c.tell_moment-2.new.sink) c.loop-steps.text.items c.tell_moment-2.new.text.items r.most_steps
    (subst (λ k. AreQuadTold r (g.K.Sink.taken c.args.sink.now) (g.K.Sink.taken c.loop-steps.sink)
    c.loop-steps.text.items k) all i.0)
    c.in_ok-rule-2.ensures.told

pub returns-clause-at : goal.returns-clause-at
returns-clause-at g c =
    let r = c.args.self.now in
    let all : c.loop-steps.steps ≡ r.most_steps = omega (arith, c.loop-steps-test.false, c.loop-steps.auto.steps-end) in
    ends_last r r.most_steps c.loop-steps.stage c.tell_moment-2.new.stage c.in_ok-rule-2.rule (omega arith)
    (subst (λ k. IsSomeStage r k c.loop-steps.stage) all c.loop-steps.invariant.1) c.in_ok-rule-2.ensures.stepped

pub returns-clause-later : goal.returns-clause-later
returns-clause-later g c =
    counts_nothing _ (g.K.Sink.faults c.args.sink.now) (g.K.Sink.faults c.tell_moment-2.new.sink)
    (c.in_ok-rule-2.ensures.later.stays (λ e. cc) ∙ c.loop-steps.invariant.2)
