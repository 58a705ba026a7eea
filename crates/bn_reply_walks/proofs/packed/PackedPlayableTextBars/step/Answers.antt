use Rattle.std.proofs.Common.{◌∙◌}
use Rattle.bn_circuits.specs.RotaryNets.{rotary_circuit}
use Rattle.bn_session.proofs.WalkLemmas.{once_run}
use Rattle.bn_reply_walks.proofs.packed.PackedPlayableTextBars.step.Goals as goal

pub returns-clause-made : goal.returns-clause-made
returns-clause-made c = c.run_along.ensures.ran.ends
    ∙ once_run c.args.direction (rotary_circuit c.args.self.now.net) c.args.self.now.config
