-- What is left of the way ends where the way does.
use Rattle.std.proofs.Common.{◌≡◌, ◌-◌}
use Rattle.bn_session.specs.Plays.{stops}
use Rattle.bn_session.specs.Walks.{once_along, walk}
use Rattle.bn_session.proofs.walk.walk_on.Given as goal

abbrev pub invariant-loop-made : goal.invariant-loop-made
invariant-loop-made g l = record {
  left : walk (stops (g.C.Playable.moment l.fn.circuit) l.breaks)
      (once_along l.direction (g.C.Playable.circuit l.fn.circuit)) (l.count - l._made)
      (g.C.Playable.config l.circuit)
      ≡ walk (stops (g.C.Playable.moment l.fn.circuit) l.breaks)
      (once_along l.direction (g.C.Playable.circuit l.fn.circuit)) l.count (g.C.Playable.config l.fn.circuit);
  same : g.C.Playable.same l.fn.circuit l.circuit;
}
