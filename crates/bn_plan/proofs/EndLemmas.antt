-- Behind the last position what was kept is the floor plan.
use Rattle.std.specs.Prelude.{◌≡◌, ◌≢◌, ◌↔◌, ◌⊎◌, ℕ, zero, suc, ◌*◌, ◌<◌, ◌≤◌, List, [], length, map, eqb}
use Rattle.std.specs.List.{IsDistinct, count_by}
use Rattle.std.specs.List.Sorted.{IsPermutation}
use Rattle.std.proofs.Common.{refl, subst, ap, arith, inl, inr}
use Rattle.std.proofs.lemmas.List.Sorted.{IsPermutation-map, IsPermutation-sym}
use Rattle.std.proofs.lemmas.Map.Keys.{IsDistinct-IsPermutation}
use Rattle.bn_circuits.specs.Circuits.{IsCircuit}
use Rattle.bn_circuits.specs.declared.line.Wire.{Wire}
use Rattle.bn_element.specs.Rotary.{rotary}
use Rattle.bn_element.specs.declared.rotary.Rotary.{Rotary}
use Rattle.bn_circuits.specs.Parts.{Parts, circuit}
use Rattle.bn_circuits.specs.Order.{AreInOrder}
use Rattle.bn_plan.specs.declared.tracked.Tracked.{Tracked}
use Rattle.bn_plan.specs.Lists.{Pairwise}
use Rattle.bn_lists.specs.Lists.{Has}
use Rattle.bn_plan.specs.Wires.{lesser, Covers, density, IsDensest, AreRotary}
use Rattle.bn_plan.specs.Plans.{untracked, wires_of, tracks_of, IsPlan, IsFloorPlan}
use Rattle.bn_plan.specs.Sweeping.{Swept, IsWidest, IsSwept, floor_of}
use Rattle.bn_plan.proofs.ListLemmas.{down_from, down_from_in, length-down_from, distinct_pairwise, pairwise_weaker}
use Rattle.bn_plan.proofs.ListLemmas.{pairwise_both, pairwise_map, pairwise_unmap, eqb_flips}
use Rattle.bn_plan.proofs.DensityLemmas.{ends_ordered, densest, densest_is, starts_are_apart}
use Rattle.bn_plan.proofs.TrackLemmas.{tracks_fit, all_counted, track_bound, cover_bound, covers_at, density_of}
use Rattle.bn_plan.proofs.TrackLemmas.{plans_use_no_more}
use Rattle.bn_plan.proofs.CircuitLemmas.{net_rotary, ends_within}
use Rattle.bn_plan.proofs.PlanLemmas.{InOrder, in_order, same_sorted, moves_in}

-- wires in order that begin at different positions are in strict order
strict : (ws zs : List Wire) → IsDistinct eqb (map lesser ws) → InOrder zs → IsPermutation ws zs
    → Pairwise (λ v w. lesser v < lesser w) zs
strict ws zs distinct order all =
    let moved = IsDistinct-IsPermutation eqb eqb_flips (map lesser ws) (map lesser zs)
    (IsPermutation-map lesser ws zs all) distinct in
    let apart = pairwise_unmap (λ x y. x ≢ y) lesser zs (distinct_pairwise (map lesser zs) moved) in
    pairwise_weaker (λ v w. (lesser v ≤ lesser w) × (lesser v ≢ lesser w)) (λ v w. lesser v < lesser w) zs
    (λ v w h k both. let low = both.0 in let other = both.1 in omega (arith, low, other))
    (pairwise_both (λ v w. lesser v ≤ lesser w) (λ v w. lesser v ≢ lesser w) zs order apart)

-- a list in strict order that has the same wires is the list in order
same_permutation : (ws us : List Wire) → AreRotary ws → Pairwise (λ v w. lesser v < lesser w) us
    → ((w : Wire) → Has us w ↔ Has ws w) → IsPermutation ws us
same_permutation ws us r order same =
    let sorted = in_order ws in
    let equal : sorted.0 ≡ us = same_sorted sorted.0 us (strict ws sorted.0 (starts_are_apart ws r) sorted.1 sorted.2)
    order
    (λ w h. (same w).1 (moves_in sorted.0 ws (IsPermutation-sym ws sorted.0 sorted.2) w h))
    (λ w h. moves_in ws sorted.0 sorted.2 w ((same w).0 h)) in
    subst (IsPermutation ws) equal sorted.2

module _ (ws : List Wire) (r : AreRotary ws) (p : ℕ) (s : Swept) (is : IsSwept ws p s)
    (behind : (w : Wire) → Has ws w → lesser w < p) where
  whole : IsPlan ws s.wires
  whole = record {
    all = same_permutation ws (wires_of s.wires) r (pairwise_map (λ v w. lesser v < lesser w) untracked s.wires
        is.order) (λ w. ((λ h. ((is.begun w).0 h).0), λ h. (is.begun w).1 (h, behind w h)));
    order = pairwise_weaker (λ (t u : Tracked). lesser (untracked t) < lesser (untracked u))
        (λ (t u : Tracked). lesser (untracked t) ≤ lesser (untracked u)) s.wires (λ t u h k low. omega (arith, low))
        is.order;
    tracks = is.least;
  }

  most : tracks_of s.wires ≡ density ws (densest ws)
  most = (plans_use_no_more ws s.wires (density ws (densest ws)) (densest ws) whole (densest_is ws)).0

  greatest : (q : ℕ) → density ws q ≤ s.tracks
  greatest q = let bound = (densest_is ws).greatest q in let all = is.tracks in let same =
      most in omega (arith, bound, all, same)

  -- the first wire of the greatest track
  module _ (d : IsWidest s.wires s.tracks s.densest) where
    reached : density ws s.densest ≡ s.tracks
    reached =
        let bound = track_bound [] s.wires (λ t u h k. absurd h) whole.order is.least d.first d.stands in
        let count : density ws (lesser (untracked d.first)) ≡ count_by (covers_at (lesser (untracked d.first)))
        s.wires = density_of ws s.wires (lesser (untracked d.first)) whole.all in
        let place : density ws (lesser (untracked d.first)) ≡ density ws s.densest = ap (density ws) d.begins in
        let track = d.track in
        let most_there = greatest s.densest in
        omega (arith, bound, count, place, track, most_there)

    -- before it the tracks are fewer
    fewer : (q : ℕ) → q < s.densest → (n : ℕ) → suc n ≡ s.tracks → density ws q < s.tracks
    fewer q early n next =
        let bound = cover_bound s.wires (down_from n) q (tracks_fit [] s.wires is.least) low in
        let count = density_of ws s.wires q whole.all in
        let size = length-down_from n in
        omega (arith, bound, count, size, next)
      where
        low : (t : Tracked) → Has s.wires t → Covers q (untracked t) → Has (down_from n) t.track
        low t h c =
            let less = d.before t h (let starts = c.starts in omega (arith, starts, early)) in
            down_from_in n t.track (all_counted [] s.wires is.least t h) (omega (arith, less, next))

    least : (q : ℕ) → q < s.densest → density ws q < s.tracks
    least q early = by_tracks s.tracks refl
      where
        by_tracks : (k : ℕ) → k ≡ s.tracks → density ws q < s.tracks
        by_tracks zero e = let some = all_counted [] s.wires is.least d.first d.stands in let track =
            d.track in absurd (omega (arith, some, track, e))
        by_tracks (suc n) e = fewer q early n e

  where_most : ((s.tracks ≡ 0) × (s.densest ≡ 0)) ⊎ IsWidest s.wires s.tracks s.densest
      → IsDensest ws s.tracks s.densest
  where_most (inl none) = record {
    reached = let bound = greatest s.densest in let zero_tracks = none.0 in omega (arith, bound, zero_tracks);
    greatest = greatest;
    least = λ q early. let first = none.1 in absurd (omega (arith, early, first));
  }
  where_most (inr d) = record { reached = reached d; greatest = greatest; least = least d }

  pub swept_floor : IsFloorPlan ws (floor_of s)
  swept_floor = record { plan = whole; tracks = is.tracks; densest = where_most is.densest }

-- ---- a net

-- behind all positions of a net
pub net_floor : (net : Parts Rotary) → IsCircuit (circuit (λ _. rotary) net) → AreInOrder net.wires
    → (p : ℕ) (s : Swept) → 8 * length net.elements ≤ p → IsSwept net.wires p s → IsFloorPlan net.wires (floor_of s)
net_floor net k order p s behind is = swept_floor net.wires (net_rotary net k order) p s is passed
  where
    passed : (w : Wire) → Has net.wires w → lesser w < p
    passed w h =
        let within = ends_within net k order w h in
        let below = ends_ordered w in
        omega (arith, within, below, behind)
