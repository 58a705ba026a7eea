use Rattle.std.specs.Prelude.{IfOk, []}
use Rattle.std.proofs.Common.{subst}
use Rattle.bn_reply.specs.Opened.{IsOpenedWord}
use Rattle.bn_reply.proofs.ReplyLemmas.{spelled_replies}
use Rattle.bn_reply.proofs.SettledLemmas.{foreign_replies}
use Rattle.bn_reply_windows.specs.WindowReply.{TellsWindow}
use Rattle.bn_reply_windows.proofs.window.window_of_word.Goals as goal

pub returns-in-Refused : goal.returns-in-Refused
returns-in-Refused c =
    let refused = subst (IsOpenedWord c.args.table.now c.args.word.now) c.in-Refused.is c.in_ok-reply.ensures in
    foreign_replies (TellsWindow c.args.table.now c.args.most_steps) c.args.table.now c.args.word.now
    c.in-Refused.reply refused

pub returns-in-Symbols : goal.returns-in-Symbols
returns-in-Symbols c =
    let t = c.args.table.now in
    let symbols = c.in-Symbols.symbols.items in
    let spelled = subst (IsOpenedWord t c.args.word.now) c.in-Symbols.is c.in_ok-reply.ensures in
    let tells = subst (λ xs. IfOk c.window_of_symbols.result
    (λ r. TellsWindow t c.args.most_steps xs r.status r.text.items [])) c.as_slice.ensures.value
    c.window_of_symbols.ensures in
    spelled_replies (TellsWindow t c.args.most_steps) t c.args.word.now symbols c.window_of_symbols.result spelled
    tells
