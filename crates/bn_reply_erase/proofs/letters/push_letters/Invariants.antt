use Rattle.std.proofs.Common.{◌≡◌, ◌++◌, take}
use Rattle.bn_reply.specs.Words.{letters_of}
use Rattle.bn_reply_erase.specs.EraseReply.{lettered}
use Rattle.bn_reply_erase.proofs.letters.push_letters.Given as goal

abbrev pub invariant-loop-symbol : goal.invariant-loop-symbol
invariant-loop-symbol l = l.text.items ≡ l.initial.text.items
    ++ letters_of (lettered l.joined) (take l.symbol-index l.symbols)
