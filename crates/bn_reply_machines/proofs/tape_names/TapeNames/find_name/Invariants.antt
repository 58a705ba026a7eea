use Rattle.bn_quad.proofs.NamesLemmas.{HasNoNumberBelow}
use Rattle.bn_reply_machines.proofs.tape_names.TapeNames.find_name.Given as goal

abbrev pub invariant-loop-symbol : goal.invariant-loop-symbol
invariant-loop-symbol l = HasNoNumberBelow l.self l.name l.symbol
