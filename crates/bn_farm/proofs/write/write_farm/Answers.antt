use Rattle.std.proofs.Common.{sym, subst}
use Rattle.bn_farm.specs.Farms.{IsFarm}
use Rattle.bn_farm.proofs.write.write_farm.Goals as goal

pub push_boards-requires : goal.push_boards-requires
push_boards-requires c = subst IsFarm (sym c.boards.ensures.shown) c.boards.ensures.farm
