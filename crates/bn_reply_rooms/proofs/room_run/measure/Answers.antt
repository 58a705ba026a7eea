use Rattle.std.proofs.Common.{◌≡◌, ℕ, arith, subst}
use Rattle.bn_quad.specs.Calls.{IsQuadTurn}
use Rattle.bn_quad.specs.declared.tapes.QuadTurn.{QuadTurn}
use Rattle.bn_reply_rooms.proofs.MeasureLemmas.{IsMeasuredSoFar, measured_end, measured_more, measured_start}
use Rattle.bn_reply_rooms.proofs.room_run.measure.Goals as goal

pub loop-steps-init : goal.loop-steps-init
loop-steps-init c = λ x stage.
    measured_start c.args.machine.now c.args.most_steps x c.args.state.now c.args.tapes.now c.at_start-reach.result
    c.at_start-reach.ensures stage

pub returns-in_default : goal.returns-in_default
returns-in_default c = λ x stage.
    measured_end c.args.machine.now c.args.most_steps c.loop-steps.steps x c.loop-steps.state c.loop-steps.tapes
    c.loop-steps.reach c.step.result c.step.new.state c.step.new.tapes (omega (arith, c.loop-steps-test.true))
    (c.loop-steps.invariant x stage) c.step.ensures (λ early. c.in_default.not-Moved)

pub loop-steps-preserved : goal.loop-steps-preserved
loop-steps-preserved c = λ x stage.
    measured_more c.args.machine.now c.args.most_steps c.loop-steps.steps x c.loop-steps.state c.loop-steps.tapes
    c.loop-steps.reach c.in-Moved.quad c.step.new.state c.step.new.tapes c.include.new.self
    (omega (arith, c.loop-steps-test.true)) (c.loop-steps.invariant x stage)
    (subst (λ (t : QuadTurn). IsQuadTurn c.args.machine.now t c.loop-steps.state c.loop-steps.tapes c.step.new.state
    c.step.new.tapes) c.in-Moved.is c.step.ensures) c.include.ensures

pub returns : goal.returns
returns c = λ x stage.
    let all : c.loop-steps.steps ≡ c.args.most_steps = omega arith in
    measured_end c.args.machine.now c.args.most_steps c.args.most_steps x c.loop-steps.state c.loop-steps.tapes
    c.loop-steps.reach c.step-turn.result c.step-turn.new.state c.step-turn.new.tapes (omega arith)
    (subst (λ (i : ℕ). IsMeasuredSoFar c.args.machine.now c.args.most_steps i x c.loop-steps.state c.loop-steps.tapes
    c.loop-steps.reach) all (c.loop-steps.invariant x stage)) c.step-turn.ensures
    (λ early. absurd (omega (arith, early)))
