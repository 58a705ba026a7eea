use Rattle.std.proofs.Common.{subst, sym, arith}
use Rattle.bn_plan.specs.Plans.{IsFloorPlan}
use Rattle.bn_plan.proofs.EndLemmas.{net_floor}
use Rattle.bn_plan.proofs.make.plan.Goals as goal

pub loop-position-init : goal.loop-position-init
loop-position-init c =
    let size = c.in_ok-sweep.ensures.positions in
    let count = c.len-positions.ensures.number in
    (omega (arith, size, count), c.in_ok-sweep.ensures.swept c.args.net.now.wires)

pub returns : goal.returns
returns c =
    let count = c.len-positions.ensures.number in
    let behind = c.loop-position-test.false in
    subst (IsFloorPlan c.args.net.now.wires) (sym c.into_plan.ensures)
    (net_floor c.args.net.now c.len-positions.ensures.circuit c.len-positions.ensures.order c.loop-position.position
    c.loop-position.sweep (omega (arith, count, behind)) c.loop-position.invariant.1)
