use Rattle.bn_mixed_networks.proofs.MovedLemmas.{follow, one-move}
use Rattle.bn_mixed_networks.proofs.LawLemmas.{agree, alike, there}
use Rattle.bn_mixed_networks.proofs.laws.mixed_networks_laws.Goals as goal

pub returns : goal.returns
returns c = record {
  one_move = one-move;
  assemblies_follow_networks = follow;
  realisations_agree = agree;
  equal_modules_behave_alike = alike;
  assemblies_are_there = there;
}
