-- What the steps so far have led to.
use Rattle.bn_reply_erase.specs.EraseRun.{Reached}
use Rattle.bn_reply_erase.proofs.run.run.Given as goal

abbrev pub invariant-loop-made : goal.invariant-loop-made
invariant-loop-made l = Reached l.machine l.made l.initial.state l.initial.tapes l.state l.tapes
