use Rattle.std.proofs.Common.{subst}
use Rattle.bn_farm.specs.Farms.{IsFarm}
use Rattle.bn_farm.proofs.farm.Farm.boards.Goals as goal

pub returns-clause-farm : goal.returns-clause-farm
returns-clause-farm c = subst IsFarm c.self.view_is c.self.invariant
