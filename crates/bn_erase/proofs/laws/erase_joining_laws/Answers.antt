use Rattle.bn_erase.proofs.ClosedLemmas.{erasings_uniform}
use Rattle.bn_erase.proofs.JoinedLemmas.{joined_are_judged_alike}
use Rattle.bn_erase.proofs.JointLemmas.{joint_alphabet, codes_keep_symbols}
use Rattle.bn_erase.proofs.LawLemmas.{erasings_erase, erasings_have_names}
use Rattle.bn_erase.proofs.RecodedLemmas.{recoded_is_standard}
use Rattle.std.proofs.Common.{refl}
use Rattle.bn_erase.proofs.ThereLemmas.{erasings-there}
use Rattle.bn_erase.proofs.laws.erase_joining_laws.Goals as goal

pub returns : goal.returns
returns _ = record {
  most_quadruples_are_stated = refl;
  machines_share_letters = (joint_alphabet, codes_keep_symbols, recoded_is_standard);
  joined_are_judged_alike = joined_are_judged_alike;
  erasings_are_uniform = erasings_uniform;
  erasings_erase = erasings_erase;
  erasings_have_names = erasings_have_names;
  erasings_are_there = erasings-there;
}
