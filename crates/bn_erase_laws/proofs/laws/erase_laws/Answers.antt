use Rattle.bn_erase_laws.proofs.ComparedLemmas.{compares_output}
use Rattle.bn_erase_laws.proofs.ErasingLemmas.{erasing_joins, erasing_passes_tests, erasing_has_length}
use Rattle.bn_erase_laws.proofs.ErasingLemmas.{erasing_is_in_range, least_erasing_is_listed}
use Rattle.bn_erase_laws.proofs.ExchangedLemmas.{exchanged_lists_pass_tests, exchanged_lists_run}
use Rattle.bn_erase_laws.proofs.JoinedLemmas.{joined_lists_pass_tests, joined_lists_run, joined_lists_have_run}
use Rattle.bn_erase_laws.proofs.LeastLemmas.{least_erases}
use Rattle.bn_erase_laws.proofs.NamesLemmas.{erasing_has_names, erasing_counts_names}
use Rattle.bn_erase_laws.proofs.NearLemmas.{runs_stay_near, no_head_leaves}
use Rattle.bn_erase_laws.proofs.NumberedLemmas.{erasing_numbers_pass_tests, erasing_numbers_run_alike}
use Rattle.bn_erase_laws.proofs.OutcomeLemmas.{outcome_is_one, outcome_exists, halts_exactly}
use Rattle.bn_erase_laws.proofs.SticksLemmas.{first_sticks, second_sticks}
use Rattle.bn_erase_laws.proofs.TheoremLemmas.{erases_input}
use Rattle.bn_erase_laws.proofs.TurnedLemmas.{turned_lists_pass_tests, turned_lists_run_back}
use Rattle.bn_erase_laws.proofs.UnequalLemmas.{unequal_words_part, unequal_outputs_stop}
use Rattle.bn_erase_laws.proofs.WindowEraseLemmas.{erases-in_windows}
use Rattle.bn_erase_laws.proofs.WindowEndsLemmas.{runs-end, runs-end_once}
use Rattle.bn_erase_laws.proofs.WindowHaltLemmas.{halts-greater, windows-suffice, steps-give}
use Rattle.bn_erase_laws.proofs.WindowLeastLemmas.{least-erases_in}
use Rattle.bn_erase_laws.proofs.WindowNamedEndsLemmas.{first-names, second-names, unequal-end}
use Rattle.bn_erase_laws.proofs.laws.erase_laws.Goals as goal

pub returns : goal.returns
returns _ = record {
  erasing_passes_tests = (erasing_joins, erasing_passes_tests);
  erasing_counts = (erasing_has_length, erasing_is_in_range);
  least_is_listed = (least_erasing_is_listed, least_erases);
  erasing_erases = (compares_output, erases_input);
  bounded_runs_come_out = (outcome_is_one, outcome_exists, halts_exactly);
  erasing_numbers = (erasing_numbers_pass_tests, erasing_numbers_run_alike);
  runs_stay_near = (runs_stay_near, no_head_leaves);
  erasing_names = (erasing_has_names, erasing_counts_names);
  runs_stick = (first_sticks, second_sticks);
  unequal_outputs_stop = (unequal_words_part, unequal_outputs_stop);
  turned_lists = (turned_lists_pass_tests, turned_lists_run_back);
  exchanged_lists = (exchanged_lists_pass_tests, exchanged_lists_run);
  joined_lists = (joined_lists_pass_tests, joined_lists_run, joined_lists_have_run);
  erases_in_windows = erases-in_windows;
  runs_end = (runs-end, runs-end_once);
  machines_name_ends = (first-names, second-names, unequal-end);
  halts_in_greater_windows = halts-greater;
  windows_of_both_suffice = windows-suffice;
  least_erases_in = least-erases_in;
  steps_give_window = steps-give;
}
