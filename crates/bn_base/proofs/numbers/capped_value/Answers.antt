use Rattle.std.proofs.Common.{arith}
use Rattle.bn_base.proofs.Capped.{after-grows}
use Rattle.bn_base.proofs.numbers.capped_value.Goals as goal

pub returns-then-value : goal.returns-then-value
returns-then-value c =
    let k = c.loop-digit.digit-index in
    let grown = after-grows c.args.digits.now c.loop-digit.value k (omega (arith, c.loop-digit-test.true))
    (c.requires k (omega (arith, c.loop-digit-test.true))) in
    let same = c.loop-digit.invariant in
    let high = c.if-value.true in
    omega arith
