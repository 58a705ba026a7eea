use Rattle.std.proofs.Common.{◌-◌}
use Rattle.bn_circuits.specs.declared.place.Place.TheVariants.{Enter}
use Rattle.bn_circuits.specs.Walking.{HasWalkedBack}
use Rattle.bn_circuits.specs.RotaryNets.{rotary_circuit}
use Rattle.bn_packed.specs.PackedNets.{config_at}
use Rattle.bn_packed.proofs.NumberLemmas.{entered}
use Rattle.bn_packed.proofs.walk.walk_back_from.Given as goal

abbrev pub invariant-loop-made : goal.invariant-loop-made
invariant-loop-made g l =
    HasWalkedBack (rotary_circuit l.wiring.net) (config_at l.fn.bars (Enter l.fn.to.element l.fn.to.line) l.steps)
    (config_at l.bars (entered l.number) (l.steps - l.made)) l.made (g.W.Watch.told l.fn.watch) (g.W.Watch.told l.watch)
