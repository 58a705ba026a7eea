use Rattle.std.proofs.Common.{◌∙◌, ◌++◌, ◌∷◌, [], ap}
use Rattle.bn_rlem.proofs.PermutationLemmas.{below_more}
use Rattle.bn_rlem.proofs.permutation.numbers_below.Goals as goal

pub loop-number-preserved : goal.loop-number-preserved
loop-number-preserved c =
    c.in_ok-add.ensures ∙ ap (λ xs. xs ++ c.loop-number.number ∷ []) c.loop-number.invariant
    ∙ below_more c.loop-number.number
