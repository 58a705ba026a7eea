use Rattle.std.proofs.Common.{arith}
use Rattle.bn_reply_erase.proofs.StepLemmas.{early_turn, last_turn, no_step, one_step_more}
use Rattle.bn_reply_erase.proofs.run.run.Goals as goal

pub returns-in_default : goal.returns-in_default
returns-in_default c =
    early_turn c.args.machine.now c.args.steps c.loop-made.made c.args.state.now c.args.tapes.now c.loop-made.state
    c.loop-made.tapes c.step.result c.step.new.state c.step.new.tapes
    c.loop-made-test.true c.loop-made.invariant c.step.ensures (no_step c.step.result c.in_default.not-Moved)

pub loop-made-preserved : goal.loop-made-preserved
loop-made-preserved c =
    one_step_more c.args.machine.now c.loop-made.made c.args.state.now c.args.tapes.now c.loop-made.state
    c.loop-made.tapes c.in-Moved.quad c.step.new.state c.step.new.tapes
    c.loop-made.invariant c.in-Moved.ensures

pub returns : goal.returns
returns c =
    last_turn c.args.machine.now c.args.steps c.loop-made.made c.args.state.now c.args.tapes.now c.loop-made.state
    c.loop-made.tapes c.step-2.result
    c.step-2.new.state c.step-2.new.tapes
    (omega arith) c.loop-made.invariant c.step-2.ensures
