-- What the numbers of a configuration say of the crossing that begins there.
use Rattle.std.proofs.Common.{◌≡◌, ℕ, ◌+◌, ◌-◌, ◌≤◌, ◌==◌, Bool, true, false, Some, slice_get, refl, sym, ap, subst}
use Rattle.std.proofs.Common.{◌∙◌, arith}
use Rattle.bn_lists.specs.Runs.{Reaches}
use Rattle.bn_lists.proofs.RunsLemmas.{passes_run}
use Rattle.bn_circuits.specs.Circuits.{Circuit, clock, Goes}
use Rattle.bn_circuits.specs.Stepping.{run}
use Rattle.bn_circuits.specs.declared.place.Place.TheVariants.{Enter}
use Rattle.bn_circuits.specs.declared.config.Config.{Config}
use Rattle.bn_column.specs.Columns.{IsColumn, bar, entry_side, crossing_cost, IsEntering, CanCross, crossed, IsCrossing}
use Rattle.bn_column.proofs.CrossingLemmas.{column_crosses}
use Rattle.bn_column.proofs.NetLemmas.{ran}

marks : (marked from_east : Bool) (q l : ℕ) → q ≡ bar marked → l ≡ entry_side from_east
    → ((q == 0) ≡ marked) × ((l == 1) ≡ from_east)
marks true true q l is_q is_l = rw (is_q, is_l) (refl, refl)
marks true false q l is_q is_l = rw (is_q, is_l) (refl, refl)
marks false true q l is_q is_l = rw (is_q, is_l) (refl, refl)
marks false false q l is_q is_l = rw (is_q, is_l) (refl, refl)

-- the cost by what stands there is that of the crossing
cost_there : (b k i e l q : ℕ) (marked from_east : Bool) (c : Config) → IsEntering b k i marked from_east c
    → c.place ≡ Enter e l → slice_get c.states (b + k) ≡ Some q
    → crossing_cost k (e - b + 1) (q == 0) (l == 1) ≡ crossing_cost k (i + 1) marked from_east
cost_there b k i e l q marked from_east c entering place bottom =
    let enters = entering.enters in
    let rests = entering.at_rest.bottom in
    let element : e ≡ b + i = cc in
    let line : l ≡ entry_side from_east = cc in
    let state : q ≡ bar marked = cc in
    let is = marks marked from_east q l state line in
    let row : e - b + 1 ≡ i + 1 = omega arith in
    rw (row, is.0, is.1) refl

pub crossing_ran : (k : Circuit) (b rows e l q made : ℕ) (c end : Config) → IsColumn k b rows → CanCross b rows c
    → c.place ≡ Enter e l → slice_get c.states (b + rows) ≡ Some q
    → end ≡ run k c (crossing_cost rows (e - b + 1) (q == 0) (l == 1)) → Reaches (Goes k) made c end
    → (i : ℕ) (marked from_east : Bool) → IsEntering b rows i marked from_east c
    → IsCrossing k b rows i marked from_east made c end
crossing_ran k b rows e l q made c end column can place bottom is counted i marked from_east entering =
    let cost : ℕ = crossing_cost rows (i + 1) marked from_east in
    let same = cost_there b rows i e l q marked from_east c entering place bottom in
    let other = cost_there b rows can.row e l q can.marked can.from_east c can.entering place bottom in
    let in_time : c.steps + cost ≤ clock = subst (λ n. c.steps + n ≤ clock) (sym other ∙ same) can.in_time in
    let path = passes_run (Goes k) (λ _. true) cost c (crossed k b rows i marked from_east c)
    (column_crosses k b rows i marked from_east c (λ _. true) column entering in_time (λ d within. refl)) in
    let ends = ran k c (crossed k b rows i marked from_east c) end cost made path (is ∙ ap (run k c) same) counted in
    record { cost = ends.1; made = counted; ends = ends.0 }
