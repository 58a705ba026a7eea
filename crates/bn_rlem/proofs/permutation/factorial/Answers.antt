-- One factor more still fits.
use Rattle.std.proofs.Common.{arith}
use Rattle.bn_rlem.proofs.PermutationLemmas.{factorial_more, product_fits}
use Rattle.bn_rlem.proofs.permutation.factorial.Goals as goal

pub overflow_mul-product : goal.overflow_mul-product
overflow_mul-product c =
    let fits = product_fits c.loop-factor.product c.loop-factor.factor c.from.result c.loop-factor.invariant
    c.from.ensures (omega arith) in
    omega (arith, fits)

pub loop-factor-preserved : goal.loop-factor-preserved
loop-factor-preserved c =
    factorial_more c.loop-factor.product c.loop-factor.factor c.from.result c.loop-factor.invariant c.from.ensures
