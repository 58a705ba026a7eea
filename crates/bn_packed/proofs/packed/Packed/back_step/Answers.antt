use Rattle.bn_circuits.specs.RotaryNets.{rotary_circuit}
use Rattle.bn_packed.specs.declared.direction.Direction.TheVariants.{Backward}
use Rattle.bn_packed.proofs.StepLemmas.{ended_none, kept_none, made_one}
use Rattle.bn_packed.proofs.packed.Packed.back_step.Goals as goal

pub returns-clause-made : goal.returns-clause-made
returns-clause-made c =
    made_one Backward (rotary_circuit c.args.self.now.net) c.run_back.result c.args.self.now.config
    c.run_back.new.self.config c.run_back.ensures.ran

pub returns-clause-kept : goal.returns-clause-kept
returns-clause-kept c =
    kept_none Backward (rotary_circuit c.args.self.now.net) c.run_back.result c.args.self.now.config
    c.run_back.new.self.config c.run_back.ensures.ran

pub returns-clause-first : goal.returns-clause-first
returns-clause-first c =
    ended_none Backward (rotary_circuit c.args.self.now.net) c.run_back.result c.args.self.now.config
    c.run_back.new.self.config c.run_back.ensures.ran
