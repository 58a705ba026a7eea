use Rattle.std.proofs.Common.{ap}
use Rattle.bn_packed.specs.Ways.{Ways}
use Rattle.bn_packed.proofs.AcrossLemmas.{across_there, across_read}
use Rattle.bn_packed.proofs.BehindLemmas.{wiring_there}
use Rattle.bn_packed.proofs.wiring.Wiring.target.Goals as goal

pub get-requires : goal.get-requires
get-requires g c =
    across_there c.self.inside.ahead c.args.self.now.net c.args.from c.opposite.result
    (ap (λ (w : Ways). w.net) c.self.view_is) c.opposite.ensures
    c.requires

pub returns : goal.returns
returns g c =
    let there = wiring_there c.self.inside.ahead c.self.invariant.0 in
    across_read c.self.inside.ahead there.0 c.args.self.now.net c.args.from c.opposite.result c.get.result there.1
    (ap (λ (w : Ways). w.net) c.self.view_is) c.opposite.ensures c.requires c.get.ensures
