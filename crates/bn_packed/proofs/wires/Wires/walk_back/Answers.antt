use Rattle.std.proofs.Common.{refl, sym, subst, arith}
use Rattle.bn_circuits.specs.Circuits.{IsFirst}
use Rattle.bn_circuits.specs.RotaryNets.{rotary_circuit}
use Rattle.bn_packed.specs.PackedNets.{net_in, config_at}
use Rattle.bn_packed.proofs.StepLemmas.{walked_back_none}
use Rattle.bn_packed.proofs.wires.Wires.walk_back.Goals as goal

pub returns-then-count-eq0-clause-walked : goal.returns-then-count-eq0-clause-walked
returns-then-count-eq0-clause-walked g c =
    walked_back_none (rotary_circuit (net_in c.args.self.now)) c.args.bars.now c.args.signal.place c.args.signal.steps
    c.args.signal.steps _
    (g.W.Watch.told c.args.watch.now) c.requires.good refl (omega arith)

pub returns-in-Narrow-clause-ended : goal.returns-in-Narrow-clause-ended
returns-in-Narrow-clause-ended g c fewer =
    subst (λ w. IsFirst (rotary_circuit (net_in w)) (config_at c.walk_back.new.bars c.walk_back.result.place
    c.walk_back.result.steps)) (sym c.in-Narrow.is)
    (subst (λ n. IsFirst (rotary_circuit n) (config_at c.walk_back.new.bars c.walk_back.result.place
    c.walk_back.result.steps)) c.make_way_back.ensures.net
    (c.walk_back.ensures.ended fewer))

pub returns-in-Wide-clause-ended : goal.returns-in-Wide-clause-ended
returns-in-Wide-clause-ended g c fewer =
    subst (λ w. IsFirst (rotary_circuit (net_in w)) (config_at c.walk_back-in-Wide.new.bars
    c.walk_back-in-Wide.result.place
    c.walk_back-in-Wide.result.steps)) (sym c.in-Wide.is)
    (subst (λ n. IsFirst (rotary_circuit n) (config_at c.walk_back-in-Wide.new.bars c.walk_back-in-Wide.result.place
    c.walk_back-in-Wide.result.steps)) c.make_way_back-in-Wide.ensures.net (c.walk_back-in-Wide.ensures.ended fewer))
