use Rattle.bn_quad.proofs.NamesLemmas.{HasNoNumberBelow}
use Rattle.bn_quad.proofs.names.NameList.find.Given as goal

abbrev pub invariant-loop-index : goal.invariant-loop-index
invariant-loop-index l = HasNoNumberBelow l.self l.name l.index
