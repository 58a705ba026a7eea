use Rattle.bn_extents.proofs.LawLemmas.{larger_windows_end_alike, least_window_exists, least_window_is_one}
use Rattle.bn_extents.proofs.LawLemmas.{smaller_windows_are_too_small}
use Rattle.bn_extents.proofs.laws.extents_laws.Goals as goal

pub returns : goal.returns
returns c = record {
  least_window_exists = least_window_exists;
  least_window_is_one = least_window_is_one;
  larger_windows_end_alike = larger_windows_end_alike;
  smaller_windows_are_too_small = smaller_windows_are_too_small;
}
