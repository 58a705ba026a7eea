use Rattle.bn_reply.proofs.LetterLemmas.{SpelledSoFar}
use Rattle.bn_reply_machines.specs.QuadReply.{lettered}
use Rattle.bn_reply_machines.proofs.tape_names.TapeNames.spell.Given as goal

abbrev pub invariant-loop-index : goal.invariant-loop-index
invariant-loop-index l = SpelledSoFar (lettered l.self) l.word l.index l.symbols.items
