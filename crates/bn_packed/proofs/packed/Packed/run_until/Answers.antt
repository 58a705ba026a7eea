use Rattle.std.proofs.Common.{◌-◌, refl}
use Rattle.bn_circuits.specs.Circuits.{clock}
use Rattle.bn_packed.specs.PackedNets.{net_in}
use Rattle.bn_packed.proofs.StepLemmas.{packed-IsStoppedRun}
use Rattle.bn_packed.proofs.packed.Packed.run_until.Goals as goal

pub returns-clause-ran : goal.returns-clause-ran
returns-clause-ran g c =
    packed-IsStoppedRun c.args.self.now (net_in c.self.inside.wires) (g.S.Stop.stops c.args.stop.now) c.self.inside.bars
    c.walk_until-self-inside.new.bars
    c.self.inside.signal.place c.walk_until-self-inside.result.place c.self.inside.signal.steps
    c.walk_until-self-inside.result.steps c.args.e
    (clock - c.self.inside.signal.steps) c.min-count.result c.self.invariant.good.in_time refl c.min-count.ensures
    c.walk_until-self-inside.ensures.forward
    c.walk_until-self-inside.ensures.limit (g.W.Watch.told c.args.watch.now)
    (g.W.Watch.told c.walk_until-self-inside.new.watch) c.self.view_is
    c.walk_until-self-inside.ensures.walked c.walk_until-self-inside.ensures.between
    c.walk_until-self-inside.ensures.ended
    c.walk_until-self-inside.ensures.moves
