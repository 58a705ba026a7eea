use Rattle.bn_bennett_laws.proofs.Bounded.{bounded_runs_agree, runs_have_no_room}
use Rattle.bn_bennett_laws.proofs.Counts.{list_has_ends, list_has_length, list_is_in_range, list_has_names}
use Rattle.bn_bennett_laws.proofs.Counts.{list_counts_names}
use Rattle.bn_bennett_laws.proofs.Halted.{halted_is_ready}
use Rattle.bn_bennett_laws.proofs.LawLemmas.{least_is_listed}
use Rattle.bn_bennett_laws.proofs.Moments.{every_moment_stands}
use Rattle.bn_bennett_laws.proofs.Numbering.{list_passes_tests, numbers_pass_tests, numbers_run_alike}
use Rattle.bn_bennett_laws.proofs.Runs.{computes_two_steps, copies_output, retraces_two_steps}
use Rattle.bn_bennett_laws.proofs.Short.{bounded_runs_are_short}
use Rattle.bn_bennett_laws.proofs.Theorem.{bennetts_theorem}
use Rattle.bn_bennett_laws.proofs.laws.bennett_laws.Goals as goal

pub returns : goal.returns
returns _ = record {
  computes_two_steps = computes_two_steps;
  halted_is_ready = halted_is_ready;
  copies_output = copies_output;
  retraces_two_steps = retraces_two_steps;
  list_passes_tests = list_passes_tests;
  list_has_ends = list_has_ends;
  list_has_length = list_has_length;
  list_is_in_range = list_is_in_range;
  list_has_names = list_has_names;
  list_counts_names = list_counts_names;
  numbers_pass_tests = numbers_pass_tests;
  least_is_listed = least_is_listed;
  bennetts_theorem = bennetts_theorem;
  bounded_runs_agree = bounded_runs_agree;
  runs_have_no_room = runs_have_no_room;
  every_moment_stands = every_moment_stands;
  bounded_runs_are_short = bounded_runs_are_short;
  numbers_run_alike = numbers_run_alike;
}
