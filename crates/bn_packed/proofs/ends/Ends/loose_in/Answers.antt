use Rattle.std.proofs.Common.{map}
use Rattle.bn_packed.proofs.BlockLemmas.{ends_in-loose}
use Rattle.bn_packed.proofs.ends.Ends.loose_in.Goals as goal

pub returns-clause-ends : goal.returns-clause-ends
returns-clause-ends g c = ends_in-loose (map g.C.Cell.tells c.loose-cells.result.items) _ c.args.elements
    c.loose-cells.ensures
