use Rattle.bn_plan.proofs.AssignedLemmas.{plans_compute}
use Rattle.bn_plan.proofs.CircuitLemmas.{circuits_are_rotary}
use Rattle.bn_plan.proofs.FloorLemmas.{none_has_fewer, no_wires}
use Rattle.bn_plan.proofs.LawLemmas.{floor_plan_is_one, wires_of_one_track_fit, tracks_are_the_density, bank_example}
use Rattle.bn_plan.proofs.TrackLemmas.{tracks_are_needed}
use Rattle.std.proofs.Common.{refl}
use Rattle.bn_plan.proofs.laws.plan_laws.Goals as goal

pub returns : goal.returns
returns _ = record {
  floor_plan_is_one = floor_plan_is_one;
  wires_of_one_track_fit = wires_of_one_track_fit;
  tracks_are_needed = tracks_are_needed;
  none_has_fewer = none_has_fewer;
  tracks_are_the_density = tracks_are_the_density;
  no_wires_no_tracks = no_wires;
  plans_compute = plans_compute;
  circuits_are_rotary = circuits_are_rotary;
  bank_example = bank_example;
  most_planned_is_stated = refl;
}
