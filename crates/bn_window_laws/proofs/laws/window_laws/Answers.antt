use Rattle.bn_window_laws.proofs.LawLemmas.{runs_end_in_least_windows, runs_leave_smaller_windows}
use Rattle.bn_window_laws.proofs.laws.window_laws.Goals as goal

pub returns : goal.returns
returns c = record {
  runs_end_in_least_windows = runs_end_in_least_windows;
  runs_leave_smaller_windows = runs_leave_smaller_windows;
}
