-- The laws of this crate that follow from those of the crates below it, each proved.
use Rattle.bn_plan.proofs.DensityLemmas.{densest_is}
use Rattle.bn_plan.proofs.FloorLemmas.{floor_exists, floor_once}
use Rattle.bn_plan.proofs.TrackLemmas.{plans_fit, plans_use_no_more}
use Rattle.bn_plan.specs.Laws.{HasOneFloorPlan, PlansFit, TracksAreTheDensity, bank_wires, BankExample}
use Rattle.bn_plan.specs.Wires.{lesser, greater}
use Rattle.std.proofs.Common.{refl}

pub floor_plan_is_one : HasOneFloorPlan
floor_plan_is_one = (floor_exists, floor_once)

pub wires_of_one_track_fit : PlansFit
wires_of_one_track_fit = λ ws f is. plans_fit ws f.wires is.plan

pub tracks_are_the_density : TracksAreTheDensity
tracks_are_the_density = λ ws f is. let used = plans_use_no_more ws f.wires f.tracks f.densest is.plan is.densest in
    (is.densest.reached, used.1, used.2)

pub bank_example : BankExample
unfolding lesser greater
bank_example = (refl, refl, densest_is bank_wires)
