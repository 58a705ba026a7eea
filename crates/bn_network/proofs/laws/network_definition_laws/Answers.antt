use Rattle.bn_network.proofs.ExistingLemmas.{have-entries}
use Rattle.bn_network.proofs.LawLemmas.{controls_are_one}
use Rattle.bn_network.proofs.MaskLemmas.{tapes-same, overlaps-one}
use Rattle.bn_network.proofs.MoveLemmas.{one-to-one}
use Rattle.std.proofs.Common.{refl}
use Rattle.bn_network.proofs.laws.network_definition_laws.Goals as goal

pub returns : goal.returns
returns _ = record {
  tapes_are_same = tapes-same;
  overlaps_are_one = overlaps-one;
  controls_are_one_to_one = one-to-one;
  states_have_entries = have-entries;
  controls_are_one = controls_are_one;
  most_symbols_are_stated = refl;
}
