use Rattle.bn_rlem.proofs.ElementLemmas.{elements-reversible}
use Rattle.bn_rlem.proofs.PermutationLemmas.{numbered-permutations, permutations-ordered}
use Rattle.bn_rlem.proofs.laws.rlem_laws.Goals as goal

pub returns : goal.returns
returns _ = record {
  permutations_are_numbered = numbered-permutations;
  permutations_are_ordered = permutations-ordered;
  elements_are_reversible = elements-reversible;
}
