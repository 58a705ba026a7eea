use Rattle.std.proofs.Common.{sym, subst}
use Rattle.bn_circuits.specs.Circuits.{IsStuck}
use Rattle.bn_circuits.specs.RotaryNets.{rotary_circuit}
use Rattle.bn_packed.specs.PackedNets.{net_in, config_at}
use Rattle.bn_packed.proofs.wires.Wires.walk.Goals as goal

pub returns-in-Narrow-clause-ended : goal.returns-in-Narrow-clause-ended
returns-in-Narrow-clause-ended g c fewer =
    subst (λ w. IsStuck (rotary_circuit (net_in w)) (config_at c.walk.new.bars c.walk.result.place c.walk.result.steps))
    (sym c.in-Narrow.is)
    (c.walk.ensures.ended fewer)

pub returns-in-Wide-clause-ended : goal.returns-in-Wide-clause-ended
returns-in-Wide-clause-ended g c fewer =
    subst (λ w. IsStuck (rotary_circuit (net_in w)) (config_at c.walk-in-Wide.new.bars c.walk-in-Wide.result.place
    c.walk-in-Wide.result.steps))
    (sym c.in-Wide.is) (c.walk-in-Wide.ensures.ended fewer)
