use Rattle.bn_equal.proofs.LawLemmas.{equal_both_ways, equal_onward, equal_states_do_not_differ, equal_to_itself}
use Rattle.bn_equal.proofs.LawLemmas.{least_differences_are_one}
use Rattle.bn_equal.proofs.ExistenceLemmas.{equal_or_told}
use Rattle.bn_equal.proofs.laws.equal_laws.Goals as goal

pub returns : goal.returns
returns c = record {
  equal_to_itself = equal_to_itself;
  equal_both_ways = equal_both_ways;
  equal_onward = equal_onward;
  equal_states_do_not_differ = equal_states_do_not_differ;
  least_differences_are_one = least_differences_are_one;
  equal_or_different = equal_or_told;
}
