use Rattle.std.proofs.Common.{Some}
use Rattle.bn_reply.proofs.LetterLemmas.{symbol_found}
use Rattle.bn_reply_erase.specs.EraseReply.{lettered}
use Rattle.bn_reply_erase.proofs.SettledLemmas.{joint_alphabet}
use Rattle.bn_reply_erase.proofs.letters.symbol_of.Goals as goal

pub returns : goal.returns
returns c =
    symbol_found (lettered c.args.joined.now) (joint_alphabet c.args.joined.now c.symbol_of.ensures.valid)
    c.args.byte c.if-byte-eq-BLANK.false (Some c.in_ok-symbol.symbol) c.in_ok-symbol.ensures.found
    c.in_ok-symbol.ensures.none
