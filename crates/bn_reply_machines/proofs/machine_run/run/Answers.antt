use Rattle.std.proofs.Common.{arith}
use Rattle.bn_reply_machines.proofs.RunLemmas.{one_step_more, last_turn}
use Rattle.bn_reply_machines.proofs.machine_run.run.Goals as goal

pub loop-made-preserved : goal.loop-made-preserved
loop-made-preserved c =
    one_step_more c.args.machine.now c.loop-made.made c.args.state.now c.args.tape.now c.loop-made.state
    c.loop-made.tape c.step.new.state c.step.new.tape
    c.loop-made.invariant c.in-Moved.ensures

pub returns : goal.returns
returns c =
    last_turn c.args.machine.now c.args.steps c.loop-made.made c.args.state.now c.args.tape.now c.loop-made.state
    c.loop-made.tape c.step-2.result
    c.step-2.new.state c.step-2.new.tape
    (omega arith) c.loop-made.invariant c.step-2.ensures
