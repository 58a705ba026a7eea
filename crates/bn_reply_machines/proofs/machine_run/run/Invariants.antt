-- What the steps so far have led to.
use Rattle.bn_reply_machines.specs.MachineRun.{Reached}
use Rattle.bn_reply_machines.proofs.machine_run.run.Given as goal

abbrev pub invariant-loop-made : goal.invariant-loop-made
invariant-loop-made l = Reached l.machine l.made l.initial.state l.initial.tape l.state l.tape
