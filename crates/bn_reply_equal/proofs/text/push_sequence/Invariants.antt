use Rattle.std.proofs.Common.{◌≡◌, ◌++◌, drop}
use Rattle.bn_reply_equal.specs.EqualReply.{sequence_text}
use Rattle.bn_reply_equal.proofs.text.push_sequence.Given as goal

abbrev pub invariant-loop-input : goal.invariant-loop-input
invariant-loop-input l = l.text.items ++ sequence_text (drop l.input-index l.word)
    ≡ l.fn.text.items ++ sequence_text l.word
