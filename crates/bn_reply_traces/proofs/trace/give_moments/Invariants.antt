use Rattle.std.proofs.Common.{◌≡◌}
use Rattle.bn_reply_traces.specs.Stages.{AreTold, IsStageAfter}
use Rattle.bn_reply_traces.proofs.trace.give_moments.Given as goal

abbrev pub invariant-loop-steps : goal.invariant-loop-steps
invariant-loop-steps g l =
    AreTold l.table l.word (g.K.Sink.taken l.fn.sink) (g.K.Sink.taken l.sink) l.text.items l.steps
    × IsStageAfter l.table l.word l.most_steps l.steps l.stage
    × (g.K.Sink.faults l.sink ≡ g.K.Sink.faults l.fn.sink)
