use Rattle.std.proofs.Common.{◌≡◌}
use Rattle.bn_reply_traces.specs.QuadStages.{AreQuadTold, IsSomeStage}
use Rattle.bn_reply_traces.proofs.quad_run.QuadRun.give_lines.Given as goal

abbrev pub invariant-loop-steps : goal.invariant-loop-steps
invariant-loop-steps g l =
    AreQuadTold l.self (g.K.Sink.taken l.fn.sink) (g.K.Sink.taken l.sink) l.text.items l.steps
    × IsSomeStage l.self l.steps l.stage
    × (g.K.Sink.faults l.sink ≡ g.K.Sink.faults l.fn.sink)
