use Rattle.std.proofs.Common.{◌≡◌, ◌*◌, length}
use Rattle.bn_plan.specs.Sweeping.{IsSwept}
use Rattle.bn_plan.proofs.make.plan.Given as goal

abbrev pub invariant-loop-position : goal.invariant-loop-position
invariant-loop-position l = (length l.sweep.ending ≡ 8 * length l.net.elements) × IsSwept l.net.wires l.position l.sweep
