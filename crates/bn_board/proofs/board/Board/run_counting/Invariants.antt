use Rattle.std.proofs.Common.{◌-◌, ◌≤◌}
use Rattle.bn_board.proofs.CountingLemmas.{HasCounted}
use Rattle.bn_board.proofs.board.Board.run_counting.Given as goal

abbrev pub decreases-loop-made : goal.decreases-loop-made
decreases-loop-made g l = l.e - l.made

abbrev pub invariant-loop-made : goal.invariant-loop-made
invariant-loop-made g l = record {
  counted : HasCounted l.fn.self l.self l.made l.moments (g.W.Watch.told l.fn.watch) (g.W.Watch.told l.watch);
  within : l.made ≤ l.e;
}
