use Rattle.bn_circuits.specs.RotaryNets.{rotary_circuit}
use Rattle.bn_packed.specs.declared.direction.Direction.TheVariants.{Forward}
use Rattle.bn_packed.proofs.StepLemmas.{ended_none, kept_none, made_one}
use Rattle.bn_packed.proofs.packed.Packed.step.Goals as goal

pub returns-clause-made : goal.returns-clause-made
returns-clause-made c =
    made_one Forward (rotary_circuit c.args.self.now.net) c.run.result c.args.self.now.config c.run.new.self.config
    c.run.ensures.ran

pub returns-clause-kept : goal.returns-clause-kept
returns-clause-kept c =
    kept_none Forward (rotary_circuit c.args.self.now.net) c.run.result c.args.self.now.config c.run.new.self.config
    c.run.ensures.ran

pub returns-clause-stuck : goal.returns-clause-stuck
returns-clause-stuck c =
    ended_none Forward (rotary_circuit c.args.self.now.net) c.run.result c.args.self.now.config c.run.new.self.config
    c.run.ensures.ran
