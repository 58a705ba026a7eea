use Rattle.std.proofs.Common.{◌<◌, ◌+◌, ◌-◌, refl, arith}
use Rattle.std.proofs.lemmas.Bool.Decides.{nat_tests}
use Rattle.bn_circuits.specs.RotaryNets.{rotary_circuit}
use Rattle.bn_packed.specs.PackedNets.{config_at}
use Rattle.bn_packed.proofs.StepLemmas.{walked_back_none, left_below, left-IsConfig, left_walked_back}
use Rattle.bn_packed.proofs.walk.walk_back.Goals as goal

pub returns-then-count-eq0-clause-walked : goal.returns-then-count-eq0-clause-walked
returns-then-count-eq0-clause-walked g c =
    walked_back_none (rotary_circuit c.args.wiring.now.net) c.args.bars.now c.args.signal.place c.args.signal.steps
    c.args.signal.steps _
    (g.W.Watch.told c.args.watch.now)
    c.requires.good refl (omega arith)

pub cross_back-requires-clause-element : goal.cross_back-requires-clause-element
cross_back-requires-clause-element g c =
    (left_below c.args.wiring.now.net c.requires.circuit c.args.bars.now c.args.bars.now c.args.signal.place
    c.in-Left.element c.in-Left.line 0
    c.args.signal.steps c.requires.good c.in-Left.is).0

pub cross_back-requires-clause-line : goal.cross_back-requires-clause-line
cross_back-requires-clause-line g c =
    (left_below c.args.wiring.now.net c.requires.circuit c.args.bars.now c.args.bars.now c.args.signal.place
    c.in-Left.element c.in-Left.line 0
    c.args.signal.steps c.requires.good c.in-Left.is).1

pub walk_back_from-requires-in-Left-clause-good : goal.walk_back_from-requires-in-Left-clause-good
walk_back_from-requires-in-Left-clause-good g c =
    left-IsConfig c.args.wiring.now.net c.requires.circuit c.args.bars.now c.cross_back.new.self
    c.args.signal.place c.in-Left.element
    c.in-Left.line c.cross_back.result c.args.signal.steps
    c.requires.good c.in-Left.is c.cross_back.ensures some
  where
    some : 0 < c.args.signal.steps
    some = grind (arith, nat_tests)

pub returns-else-count-eq0-clause-walked : goal.returns-else-count-eq0-clause-walked
returns-else-count-eq0-clause-walked g c =
    left_walked_back c.args.wiring.now.net c.requires.circuit c.args.bars.now c.cross_back.new.self
    c.args.signal.place c.in-Left.element
    c.in-Left.line c.cross_back.result c.args.signal.steps
    c.requires.good c.in-Left.is
    (config_at c.walk_back_from-in-Left.new.bars c.walk_back_from-in-Left.result.place
    c.walk_back_from-in-Left.result.steps) c.entering.result
    (c.args.signal.steps - c.walk_back_from-in-Left.result.steps)
    ((c.args.signal.steps - 1) - c.walk_back_from-in-Left.result.steps)
    (g.W.Watch.told c.args.watch.now) (g.W.Watch.told c.enter.new.self)
    (g.W.Watch.told c.walk_back_from-in-Left.new.watch)
    c.cross_back.ensures some c.entering.ensures c.enter.ensures c.walk_back_from-in-Left.ensures.walked
    (let low = c.walk_back_from-in-Left.ensures.backward in omega arith)
  where
    some : 0 < c.args.signal.steps
    some = grind (arith, nat_tests)

pub returns-else-count-eq0-clause-ended : goal.returns-else-count-eq0-clause-ended
returns-else-count-eq0-clause-ended g c fewer = c.walk_back_from-in-Left.ensures.ended low
  where
    low : c.args.signal.steps - 1 < c.walk_back_from-in-Left.result.steps + (c.args.count - 1)
    low = grind (arith, nat_tests)
