use Rattle.std.proofs.Common.{length}
use Rattle.bn_farm.proofs.FarmReadLemmas.{HasReadBoards}
use Rattle.bn_farm.proofs.farm_reader.read_farm.Given as goal

abbrev pub invariant-loop-part : goal.invariant-loop-part
invariant-loop-part l = HasReadBoards l.bytes l.boards.items l.left

abbrev pub decreases-loop-part : goal.decreases-loop-part
decreases-loop-part l = length l.left
