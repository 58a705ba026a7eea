use Rattle.bn_reply_machines.proofs.AlphabetLemmas.{HasNoLetterBelow}
use Rattle.bn_reply_machines.proofs.tape_names.TapeNames.find.Given as goal

abbrev pub invariant-loop-symbol : goal.invariant-loop-symbol
invariant-loop-symbol l = HasNoLetterBelow l.self l.byte l.symbol
