use Rattle.std.proofs.Common.{◌-◌}
use Rattle.bn_circuits.specs.RotaryNets.{rotary_circuit}
use Rattle.bn_packed.specs.PackedNets.{net_in, config_at}
use Rattle.bn_packed.specs.declared.direction.Direction.TheVariants.{Backward}
use Rattle.bn_packed.proofs.StepLemmas.{IsToldRun, packed_back-IsToldRun}
use Rattle.bn_packed.proofs.packed.Packed.run_back_watched.Given.{Over}
use Rattle.bn_packed.proofs.packed.Packed.run_back_watched.Goals as goal

all : (g : Over) (c : goal.After-self-1 g)
    → IsToldRun Backward (rotary_circuit c.args.self.now.net) c.args.self.now.config
    (config_at c.walk_back-self-inside.new.bars c.walk_back-self-inside.result.place
    c.walk_back-self-inside.result.steps)
    c.args.e (c.self.inside.signal.steps - c.walk_back-self-inside.result.steps) (g.W.Watch.told c.args.watch.now)
    (g.W.Watch.told c.walk_back-self-inside.new.watch)
all g c =
    packed_back-IsToldRun c.args.self.now (net_in c.self.inside.wires) c.self.inside.bars
    c.walk_back-self-inside.new.bars c.self.inside.signal.place
    c.walk_back-self-inside.result.place
    c.self.inside.signal.steps c.walk_back-self-inside.result.steps c.args.e c.min-count.result
    (g.W.Watch.told c.args.watch.now)
    (g.W.Watch.told c.walk_back-self-inside.new.watch)
    c.self.view_is c.self.invariant.circuit c.min-count.ensures c.walk_back-self-inside.ensures.backward
    c.walk_back-self-inside.ensures.limit
    c.walk_back-self-inside.ensures.walked c.walk_back-self-inside.ensures.ended

pub returns-clause-ran : goal.returns-clause-ran
returns-clause-ran g c = (all g c).ran

pub returns-clause-told : goal.returns-clause-told
returns-clause-told g c = (all g c).told
