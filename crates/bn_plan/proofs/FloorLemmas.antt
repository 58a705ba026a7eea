-- Wires have a floor plan, and only one; none has fewer tracks.
use Rattle.std.specs.Prelude.{◌≡◌, ◌↔◌, ℕ, ◌≤◌, List, [], length}
use Rattle.std.specs.List.{count_by}
use Rattle.std.proofs.Common.{sym, ◌∙◌, ap, arith}
use Rattle.bn_circuits.specs.declared.line.Wire.{Wire}
use Rattle.bn_plan.specs.declared.tracked.Tracked.{Tracked}
use Rattle.bn_lists.specs.Lists.{Has}
use Rattle.bn_plan.specs.Wires.{density, IsDensest, AreRotary}
use Rattle.bn_plan.specs.Plans.{FloorPlan, IsPlan, IsFloorPlan, IsAssignment, HasTracks}
use Rattle.bn_plan.proofs.DensityLemmas.{densest, densest_is, densest_once, densest_none, starts_are_apart}
use Rattle.bn_plan.proofs.TrackLemmas.{density_of, covers_at, plans_use_no_more, tracks_are_needed}
use Rattle.bn_plan.proofs.PlanLemmas.{plan_exists, plan_once}

-- there is one
pub floor_exists : (ws : List Wire) → (f : FloorPlan) × IsFloorPlan ws f
floor_exists ws =
    let plan = plan_exists ws in
    let most = densest_is ws in (
      record { wires = plan.0; tracks = density ws (densest ws); densest = densest ws },
      record {
        plan = plan.1;
        tracks = (plans_use_no_more ws plan.0 (density ws (densest ws)) (densest ws) plan.1 most).0;
        densest = most;
      },
    )

-- the same wires have the same densities
density_same : (ws vs : List Wire) (a b : List Tracked) → a ≡ b → IsPlan ws a → IsPlan vs b → (p : ℕ)
    → density ws p ≡ density vs p
density_same ws vs a b same first second p = density_of ws a p first.all ∙ ap (λ ts. count_by (covers_at p) ts) same
    ∙ sym (density_of vs b p second.all)

-- and only one
pub floor_once : (ws vs : List Wire) (f g : FloorPlan) → AreRotary ws → AreRotary vs
    → ((w : Wire) → Has ws w ↔ Has vs w) → IsFloorPlan ws f → IsFloorPlan vs g → f ≡ g
floor_once ws vs f g first second same a b =
    let wires = plan_once ws vs f.wires g.wires (starts_are_apart ws first) (starts_are_apart vs second) same a.plan
    b.plan in
    let counts = density_same ws vs f.wires g.wires wires a.plan b.plan in
    let rest = densest_once ws f.tracks g.tracks f.densest g.densest a.densest (moved counts) in
    λ i. record { wires = wires i; tracks = rest.0 i; densest = rest.1 i }
  where
    moved : ((p : ℕ) → density ws p ≡ density vs p) → IsDensest ws g.tracks g.densest
    moved counts = record {
      reached = counts g.densest ∙ b.densest.reached;
      greatest = λ q. let bound = b.densest.greatest q in let same_there = counts q in omega (arith, bound, same_there);
      least = λ q h. let bound = b.densest.least q h in let same_there = counts q in omega (arith, bound, same_there);
    }

-- no assignment has fewer tracks
pub none_has_fewer : (ws : List Wire) (f : FloorPlan) (ts : List Tracked) (used : List ℕ) → IsFloorPlan ws f
    → IsAssignment ws ts → HasTracks used ts → f.tracks ≤ length used
none_has_fewer ws f ts used a b has =
    let needed = tracks_are_needed ws ts used f.densest b has in
    omega (arith, needed, a.densest.reached)

-- without wires there are no tracks
pub no_wires : (f : FloorPlan) → IsFloorPlan [] f → (f.tracks ≡ 0) × (f.densest ≡ 0)
no_wires f a = densest_once [] f.tracks 0 f.densest 0 a.densest densest_none
