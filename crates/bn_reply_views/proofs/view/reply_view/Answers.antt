use Rattle.std.proofs.Common.{[], subst}
use Rattle.bn_network_assembly.specs.Assembled.{limits_of}
use Rattle.bn_boards.proofs.ExitLemmas.{exits-one}
use Rattle.bn_boards.proofs.ClosedLemmas.{run_to_exit}
use Rattle.bn_reply.specs.declared.status.Status.TheVariants.{Done}
use Rattle.bn_reply_relations.proofs.RunLemmas.{exits-named}
use Rattle.bn_reply_boards.specs.Opened.{IsBoardAsked, IsOpenedInput}
use Rattle.bn_reply_boards.proofs.AskedLemmas.{board_accepted, board_replies, input_refused}
use Rattle.bn_reply_views.specs.ViewReply.{TellsView}
use Rattle.bn_reply_views.specs.Kept.{may_show_same}
use Rattle.bn_reply_views.proofs.MadeLemmas.{made_for, view_tells}
use Rattle.bn_reply_views.proofs.ShowingLemmas.{may_show_made}
use Rattle.bn_reply_views.proofs.view.reply_view.Goals as goal

pub returns-in-Refused : goal.returns-in-Refused
returns-in-Refused c =
    let l = limits_of c.args.windows.now in
    let reply = c.in-Refused.reply in
    input_refused (TellsView c.args.steps) c.args.bytes.now c.args.word.now l reply.status reply.text.items []
    (subst (IsOpenedInput c.args.bytes.now c.args.word.now l) c.in-Refused.is c.in_ok-reply.ensures)

pub layers_text-requires : goal.layers_text-requires
layers_text-requires c =
    let l = limits_of c.args.windows.now in
    let t = c.in-Made.table in
    let m = c.in-Made.translated in
    let b = c.in-Made.board in
    let asked : IsBoardAsked c.args.bytes.now c.args.word.now l t m b =
    subst (IsOpenedInput c.args.bytes.now c.args.word.now l) c.in-Made.is c.in_ok-reply.ensures in
    may_show_same t m b c.run.new.self c.run.ensures.same
    (may_show_made t l asked.symbols asked.flat m b asked.made
    (board_accepted c.args.bytes.now c.args.word.now l t m b asked) exits-one run_to_exit)

pub returns-in_ok-layers_text-in-Made : goal.returns-in_ok-layers_text-in-Made
returns-in_ok-layers_text-in-Made c =
    let l = limits_of c.args.windows.now in
    let t = c.in-Made.table in
    let m = c.in-Made.translated in
    let b = c.in-Made.board in
    let asked : IsBoardAsked c.args.bytes.now c.args.word.now l t m b =
    subst (IsOpenedInput c.args.bytes.now c.args.word.now l) c.in-Made.is c.in_ok-reply.ensures in
    let may = board_accepted c.args.bytes.now c.args.word.now l t m b asked in
    let text = c.in_ok-layers_text-in-Made.field-0.items in
    board_replies (TellsView c.args.steps) c.args.bytes.now c.args.word.now l t m b asked Done text []
    (view_tells t l asked.symbols asked.flat m b c.run.new.self asked.made may c.run.ensures.same c.args.steps
    c.run.ensures.ran.ends (exits-named run_to_exit) text
    (c.in_ok-layers_text-in-Made.ensures.shown asked.symbols l asked.flat
    (made_for t l asked.symbols asked.flat m b c.run.new.self asked.made may c.run.ensures.same c.args.steps
    c.run.ensures.ran.ends)))
