-- The commands before this place were played, and those from here on are in order.
use Rattle.std.proofs.Common.{take, drop}
use Rattle.bn_session.specs.Labels.{AreOrderly}
use Rattle.bn_session.specs.Breakpoints.{labels_of}
use Rattle.bn_session.specs.Plays.{session}
use Rattle.bn_session.specs.Boards.{IsPlayedTo}
use Rattle.bn_session.proofs.player.play_on.Given as goal

abbrev pub invariant-loop-command : goal.invariant-loop-command
invariant-loop-command g l = record {
  played : IsPlayedTo (g.C.Playable.circuit l.fn.circuit) (g.C.Playable.moment l.fn.circuit)
      (g.C.Playable.shown l.fn.circuit l.writer) (g.C.Playable.config l.fn.circuit)
      (take l.command-index l.command-items) (session (g.C.Playable.config l.circuit) l.breaks)
      l.fn.out.items l.out.items;
  orderly : AreOrderly (labels_of l.breaks) (drop l.command-index l.command-items);
  same : g.C.Playable.same l.fn.circuit l.circuit;
}
