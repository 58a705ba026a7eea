-- The laws of this crate that follow from those of the crates below it, each proved.
use Rattle.bn_bennett_laws.specs.Laws.{LeastIsListed}
use Rattle.bn_bennett_laws.specs.List.{bennett}
use Rattle.std.proofs.Common.{refl}

pub least_is_listed : LeastIsListed
unfolding bennett
least_is_listed = refl
