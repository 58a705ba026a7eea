use Rattle.std.proofs.Common.{◌≡◌, ◌-◌, ◌<◌, ◌≤◌, true}
use Rattle.bn_circuits.specs.RotaryNets.{rotary_circuit}
use Rattle.bn_packed.specs.Stopping.{PassesBy, passes_by}
use Rattle.bn_leap.proofs.run.leap_until.Given as goal

abbrev pub invariant-loop-made : goal.invariant-loop-made
invariant-loop-made g l = record {
  within : l.made ≤ l.e;
  net : l.packed.net ≡ l.fn.packed.net;
  passes : PassesBy (rotary_circuit l.fn.packed.net) (g.S.Stop.stops l.stop) l.made l.fn.packed.config l.packed.config;
  calm : 0 < l.made → passes_by (g.S.Stop.stops l.stop) l.packed.config.place ≡ true;
}

abbrev pub decreases-loop-made : goal.decreases-loop-made
decreases-loop-made g l = l.e - l.made
