use Rattle.bn_reply.proofs.LetterLemmas.{SpelledSoFar}
use Rattle.bn_reply_erase.specs.EraseReply.{lettered}
use Rattle.bn_reply_erase.proofs.letters.open_word.Given as goal

abbrev pub invariant-loop-index : goal.invariant-loop-index
invariant-loop-index l = SpelledSoFar (lettered l.joined) l.word l.index l.symbols.items
