use Rattle.std.proofs.Common.{◌≡◌, take}
use Rattle.bn_board.proofs.numbers.firsts_of.Given as goal

abbrev pub invariant-loop-state : goal.invariant-loop-state
invariant-loop-state l = l.firsts.items ≡ take l.state l.control.firsts
