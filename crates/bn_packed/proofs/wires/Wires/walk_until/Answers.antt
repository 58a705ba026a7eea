use Rattle.std.proofs.Common.{◌≡◌, ◌<◌, true, sym, subst}
use Rattle.std.specs.Prelude.{◌⊎◌}
use Rattle.bn_circuits.specs.Circuits.{IsStuck}
use Rattle.bn_circuits.specs.RotaryNets.{rotary_circuit}
use Rattle.bn_packed.specs.PackedNets.{net_in, config_at}
use Rattle.bn_packed.specs.Stopping.{stops_at}
use Rattle.bn_packed.proofs.wires.Wires.walk_until.Goals as goal

pub returns-in-Narrow-clause-ended : goal.returns-in-Narrow-clause-ended
returns-in-Narrow-clause-ended g c fewer =
    subst (λ w. IsStuck (rotary_circuit (net_in w)) (config_at c.walk_until.new.bars c.walk_until.result.place
    c.walk_until.result.steps) ⊎ (stops_at (g.S.Stop.stops c.args.stop.now) c.walk_until.result.place ≡ true))
    (sym c.in-Narrow.is) (c.walk_until.ensures.ended fewer)

pub returns-in-Narrow-clause-moves : goal.returns-in-Narrow-clause-moves
returns-in-Narrow-clause-moves g c some =
    subst (λ w. (c.args.signal.steps < c.walk_until.result.steps)
    ⊎ IsStuck (rotary_circuit (net_in w)) (config_at c.args.bars.now c.args.signal.place c.args.signal.steps))
    (sym c.in-Narrow.is) (c.walk_until.ensures.moves some)

pub returns-in-Wide-clause-ended : goal.returns-in-Wide-clause-ended
returns-in-Wide-clause-ended g c fewer =
    subst (λ w. IsStuck (rotary_circuit (net_in w)) (config_at c.walk_until-in-Wide.new.bars
    c.walk_until-in-Wide.result.place c.walk_until-in-Wide.result.steps)
    ⊎ (stops_at (g.S.Stop.stops c.args.stop.now) c.walk_until-in-Wide.result.place ≡ true))
    (sym c.in-Wide.is) (c.walk_until-in-Wide.ensures.ended fewer)

pub returns-in-Wide-clause-moves : goal.returns-in-Wide-clause-moves
returns-in-Wide-clause-moves g c some =
    subst (λ w. (c.args.signal.steps < c.walk_until-in-Wide.result.steps)
    ⊎ IsStuck (rotary_circuit (net_in w)) (config_at c.args.bars.now c.args.signal.place c.args.signal.steps))
    (sym c.in-Wide.is) (c.walk_until-in-Wide.ensures.moves some)
