use Rattle.bn_circuits.proofs.AlikeLemmas.{alike-run}
use Rattle.bn_circuits.proofs.CountingLemmas.{tallies-add}
use Rattle.bn_circuits.proofs.LawLemmas.{runs_compose-backward, runs_compose-forward, steps_compute-backward}
use Rattle.bn_circuits.proofs.LawLemmas.{steps_compute-forward}
use Rattle.bn_circuits.proofs.RunLemmas.{Reaches-back, Reaches-run, back_stops, run_makes}
use Rattle.bn_circuits.proofs.RunPartLemmas.{paths-between, places-of_runs, places-of_runs_back, runs-undo_in_part}
use Rattle.bn_circuits.proofs.SituationLemmas.{paths-counted, steps-counted}
use Rattle.bn_circuits.proofs.StepLemmas.{backward_once, forward_once, next-IsConfig, previous-IsConfig}
use Rattle.bn_circuits.proofs.TableLemmas.{consistent-reversible, tables-one}
use Rattle.bn_circuits.proofs.HeardLemmas.{watches-tell}
use Rattle.bn_circuits.proofs.OrderLemmas.{wires-once}
use Rattle.std.proofs.Common.{refl}
use Rattle.bn_circuits.proofs.LeavingLemmas.{leave-or-hang, come-once, are-left, behaviours-stay, one-to-one, onto}
use Rattle.bn_circuits.proofs.LeavingLemmas.{are-runs}
use Rattle.bn_circuits.proofs.laws.circuits_laws.Goals as goal

pub returns : goal.returns
returns _ = record {
  steps_are_one_to_one = (forward_once, backward_once);
  steps_compute = (steps_compute-forward, steps_compute-backward);
  configurations_stay = (next-IsConfig, previous-IsConfig);
  runs_compose = (runs_compose-forward, runs_compose-backward);
  runs_are_longest = run_makes;
  runs_are_functions = Reaches-run;
  runs_undo = (Reaches-back, back_stops);
  runs_undo_in_part = runs-undo_in_part;
  paths_pass_between = paths-between;
  places_are_those_of_runs = places-of_runs;
  places_are_those_of_runs_back = places-of_runs_back;
  steps_are_counted = steps-counted;
  paths_are_counted = paths-counted;
  tallies_add = tallies-add;
  alike_run_alike = alike-run;
  tables_are_one = tables-one;
  consistent_moves_are_reversible = consistent-reversible;
  watches_tell_within_room = watches-tell;
  wires_stand_once = wires-once;
  most_elements_are_stated = refl;
  signals_leave_or_hang = leave-or-hang;
  signals_come_once = come-once;
  circuits_are_left = are-left;
  behaviours_stay = behaviours-stay;
  behaviours_are_one_to_one = one-to-one;
  behaviours_are_onto = onto;
  behaviours_are_runs = are-runs;
}
