-- What is answered to a word, from its opening.
use Rattle.std.proofs.Common.{subst, []}
use Rattle.std.specs.Prelude.{IfOk}
use Rattle.bn_reply.specs.Opened.{IsOpenedWord}
use Rattle.bn_reply.proofs.ReplyLemmas.{spelled_replies}
use Rattle.bn_reply.proofs.SettledLemmas.{foreign_replies}
use Rattle.bn_reply_erase.specs.EraseReply.{LongReplies, lettered}
use Rattle.bn_reply_erase.proofs.erase.reply_word.Goals as goal

pub returns-in-Refused : goal.returns-in-Refused
returns-in-Refused c =
    let j = c.args.joined.now in
    foreign_replies (LongReplies j c.args.steps) (lettered j) c.args.word.now c.in-Refused.reply
    (subst (IsOpenedWord (lettered j) c.args.word.now) c.in-Refused.is c.in_ok-reply.ensures)

pub returns-in-Symbols : goal.returns-in-Symbols
returns-in-Symbols c =
    let j = c.args.joined.now in
    let spelled = subst (IsOpenedWord (lettered j) c.args.word.now) c.in-Symbols.is c.in_ok-reply.ensures in
    let answered = subst (λ xs. IfOk c.reply_symbols.result (λ r. LongReplies j c.args.steps xs r.status r.text.items
    [])) c.as_slice.ensures.value c.reply_symbols.ensures in
    spelled_replies (LongReplies j c.args.steps) (lettered j) c.args.word.now c.in-Symbols.symbols.items
    c.reply_symbols.result spelled answered
