use Rattle.std.proofs.Common.{◌≡◌, arith, ap, ◌∙◌, max, rules}
use Rattle.bn_extents.specs.Extents.{cells_left, cells_right}
use Rattle.bn_reply_windows.proofs.MeasureLemmas.{measured_all, measured_more, measured_start}
use Rattle.bn_reply_windows.proofs.window_run.measure.Goals as goal

pub loop-steps-init : goal.loop-steps-init
loop-steps-init c =
    measured_start c.args.machine.now c.args.state.now c.args.tape.now c.at_start-extent.result
    c.at_start-extent.ensures.left c.at_start-extent.ensures.right

pub loop-steps-preserved : goal.loop-steps-preserved
loop-steps-preserved c =
    let left : c.include.new.self.left ≡ max c.loop-steps.extent.left (cells_left c.head.result) = search rules in
    let right : c.include.new.self.right ≡ max c.loop-steps.extent.right (cells_right c.head.result) = search rules in
    measured_more c.args.machine.now c.loop-steps.steps c.args.state.now c.args.tape.now c.loop-steps.state
    c.loop-steps.tape c.loop-steps.extent c.step.new.state c.step.new.tape c.include.new.self
    c.loop-steps.invariant c.in-Moved.ensures
    (left ∙ ap (λ p. max c.loop-steps.extent.left (cells_left p)) c.head.ensures.value)
    (right ∙ ap (λ p. max c.loop-steps.extent.right (cells_right p)) c.head.ensures.value)

pub returns : goal.returns
returns c =
    measured_all c.args.machine.now c.args.most_steps c.loop-steps.steps c.args.state.now c.args.tape.now
    c.loop-steps.state c.loop-steps.tape c.loop-steps.extent c.step-turn.result c.step-turn.new.state
    c.step-turn.new.tape (omega arith) c.loop-steps.invariant c.step-turn.ensures
