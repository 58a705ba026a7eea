use Rattle.bn_circuits.specs.Stepping.{places}
use Rattle.bn_circuits.specs.RotaryNets.{rotary_circuit}
use Rattle.bn_leap.proofs.EntryLemmas.{silent}
use Rattle.bn_leap.proofs.run.run_leaping_until.Goals as goal

pub returns-else-listens-clause-told : goal.returns-else-listens-clause-told
returns-else-listens-clause-told g c =
    silent (g.W.Watch.told c.args.watch.now) (places (rotary_circuit c.args.packed.now.net) c.leap_until.result
    c.args.packed.now.config) c.listens.result c.listens.ensures c.if-listens.false
