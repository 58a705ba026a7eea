use Rattle.std.proofs.Common.{arith}
use Rattle.std.proofs.lemmas.Bool.Decides.{nat_tests}
use Rattle.bn_base.specs.Number.{number_of}
use Rattle.bn_base.proofs.numbers.number.Goals as goal

pub returns-then-is_empty : goal.returns-then-is_empty
unfolding number_of
returns-then-is_empty c = grind (arith, nat_tests)

pub returns-then-digits-eq48 : goal.returns-then-digits-eq48
unfolding number_of
returns-then-digits-eq48 c = grind (arith, nat_tests)

pub returns-then-value-gt-GREATEST : goal.returns-then-value-gt-GREATEST
unfolding number_of
returns-then-value-gt-GREATEST c = grind (arith, nat_tests)

pub returns : goal.returns
unfolding number_of
returns c = grind (arith, nat_tests)
