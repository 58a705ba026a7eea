use Rattle.std.proofs.Common.{length}
use Rattle.bn_netlist.proofs.PieceLemmas.{IsPieceRead}
use Rattle.bn_netlist.proofs.front.Front.push.Given as goal

abbrev pub invariant-loop-end : goal.invariant-loop-end
invariant-loop-end l = IsPieceRead l.piece l.lines l.fn.self.line.items l.fn.self.stage l.line.items l.stage

abbrev pub decreases-loop-end : goal.decreases-loop-end
decreases-loop-end l = length l.lines
