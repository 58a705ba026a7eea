use Rattle.std.proofs.Common.{[], subst}
use Rattle.bn_network_assembly.specs.Assembled.{limits_of}
use Rattle.bn_boards.proofs.ExitLemmas.{exits-one}
use Rattle.bn_boards.proofs.ClosedLemmas.{run_to_exit}
use Rattle.bn_reply_boards.specs.Opened.{IsBoardAsked, IsOpenedInput}
use Rattle.bn_reply_boards.proofs.AskedLemmas.{board_accepted, input_refused}
use Rattle.bn_reply_views.specs.SessionReply.{TellsSession}
use Rattle.bn_reply_views.proofs.ReplyLemmas.{session_replies}
use Rattle.bn_reply_views.proofs.ShowingLemmas.{may_show_made}
use Rattle.bn_reply_views.proofs.session.session_input.Goals as goal

pub returns-in-Refused : goal.returns-in-Refused
returns-in-Refused c =
    let l = limits_of c.args.windows.now in
    let reply = c.in-Refused.reply in
    input_refused (TellsSession c.args.script.now) c.args.table.now c.args.word.now l reply.status reply.text.items []
    (subst (IsOpenedInput c.args.table.now c.args.word.now l) c.in-Refused.is c.in_ok-reply.ensures)

pub session_board-requires : goal.session_board-requires
session_board-requires c =
    let l = limits_of c.args.windows.now in
    let t = c.in-Made.table in
    let m = c.in-Made.translated in
    let b = c.in-Made.board in
    let asked : IsBoardAsked c.args.table.now c.args.word.now l t m b =
    subst (IsOpenedInput c.args.table.now c.args.word.now l) c.in-Made.is c.in_ok-reply.ensures in
    may_show_made t l asked.symbols asked.flat m b asked.made (board_accepted c.args.table.now c.args.word.now l t m b
    asked) exits-one run_to_exit

pub returns-in-Made : goal.returns-in-Made
returns-in-Made c =
    let l = limits_of c.args.windows.now in
    session_replies c.args.table.now c.args.word.now l c.in-Made.table c.in-Made.translated c.in-Made.board
    (subst (IsOpenedInput c.args.table.now c.args.word.now l) c.in-Made.is c.in_ok-reply.ensures) c.args.script.now
    c.session_board.result c.session_board.ensures
