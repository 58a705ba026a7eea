-- The laws of this crate that follow from those of the crates below it, each proved.
use Rattle.bn_gen.proofs.MachineLemmas.{counted}
use Rattle.bn_gen.specs.Laws.{AreCounted}
use Rattle.std.proofs.Common.{refl}

pub increments_are_counted : AreCounted
increments_are_counted = λ k h. (counted k h, refl)
