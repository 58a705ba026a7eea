use Rattle.std.proofs.Common.{◌≡◌, ◌<◌, ◌+◌, true}
use Rattle.bn_packed.proofs.NumberLemmas.{entered}
use Rattle.bn_circuits.specs.RotaryNets.{rotary_circuit}
use Rattle.bn_packed.specs.PackedNets.{config_at}
use Rattle.bn_packed.specs.Stopping.{passes_by}
use Rattle.bn_packed.proofs.StepLemmas.{IsOnWay}
use Rattle.bn_packed.proofs.walk.walk_until.Given as goal

abbrev pub invariant-loop-made : goal.invariant-loop-made
invariant-loop-made g l = record {
  way : IsOnWay (rotary_circuit l.wiring.net) (g.S.Stop.stops l.stop)
      (config_at l.fn.bars l.signal.place l.signal.steps)
      (config_at l.bars (entered l.number) (l.signal.steps + l.made)) l.made (g.W.Watch.told l.fn.watch)
      (g.W.Watch.told l.watch);
  calm : 0 < l.made → passes_by (g.S.Stop.stops l.stop) (entered l.number) ≡ true;
}
