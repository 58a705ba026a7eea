-- The boards so far are written.
use Rattle.std.proofs.Common.{map, take}
use Rattle.bn_farm.specs.Farms.{board_of}
use Rattle.bn_farm.specs.Writing.{HasWritten}
use Rattle.bn_farm.proofs.write.push_boards.Given as goal

abbrev pub invariant-loop-board : goal.invariant-loop-board
invariant-loop-board l = HasWritten l.initial.text.items l.text.items (map board_of (take l.board-index l.boards))
