-- The letters so far stand from cell 1 on, and the window has room for so many only.
use Rattle.std.proofs.Common.{◌-◌, length}
use Rattle.bn_reply_erase.proofs.WordLemmas.{HasLetters}
use Rattle.bn_reply_erase.proofs.run.word_on.Given as goal

abbrev pub invariant-loop-symbol : goal.invariant-loop-symbol
invariant-loop-symbol l = HasLetters l.tape l.position l.word.items

abbrev pub decreases-loop-symbol : goal.decreases-loop-symbol
decreases-loop-symbol l = 4194305 - length l.word.items
