use Rattle.bn_reply.proofs.LetterLemmas.{SpelledSoFar}
use Rattle.bn_reply.proofs.opening.open_word.Given as goal

abbrev pub invariant-loop-index : goal.invariant-loop-index
invariant-loop-index l = SpelledSoFar l.table l.word l.index l.symbols.items
