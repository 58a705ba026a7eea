use Rattle.bn_farm.proofs.FarmReadLemmas.{HasCounted}
use Rattle.bn_farm.proofs.farm_reader.count_elements.Given as goal

abbrev pub invariant-loop-board : goal.invariant-loop-board
invariant-loop-board l = HasCounted l.boards l.board-index l.count
