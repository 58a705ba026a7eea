-- What the steps so far have led to.
use Rattle.bn_reply_windows.proofs.MeasureLemmas.{IsMeasuredSoFar}
use Rattle.bn_reply_windows.proofs.window_run.measure.Given as goal

abbrev pub invariant-loop-steps : goal.invariant-loop-steps
invariant-loop-steps l = IsMeasuredSoFar l.machine l.steps l.initial.state l.initial.tape l.state l.tape l.extent
