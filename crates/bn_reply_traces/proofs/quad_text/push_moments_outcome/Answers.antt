use Rattle.bn_reply_traces.proofs.QuadGivenLemmas.{ended_stage}
use Rattle.bn_reply_traces.proofs.quad_text.push_moments_outcome.Goals as goal

pub push_stuck-requires-clause-stage : goal.push_stuck-requires-clause-stage
push_stuck-requires-clause-stage c =
    let ended = c.requires.ended in (
      ended.0,
      ended_stage c.args.run.now ended.0 c.args.stage.now c.args.steps c.args.rule c.is_some.result c.is_some.ensures
          c.if-is_some.false ended.1,
    )
