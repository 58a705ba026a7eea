use Rattle.std.proofs.Common.{[], refl, subst}
use Rattle.bn_network_assembly.specs.Assembled.{limits_of}
use Rattle.bn_reply.specs.declared.status.Status.TheVariants.{Done}
use Rattle.bn_reply_boards.specs.Opened.{IsBoardAsked, IsOpenedInput}
use Rattle.bn_reply_boards.proofs.AskedLemmas.{board_accepted, board_replies, input_refused}
use Rattle.bn_reply_layout.specs.LayoutReply.{TellsLayout}
use Rattle.bn_reply_layout.proofs.TextLemmas.{few_states, has_numbers, translates}
use Rattle.bn_reply_layout.proofs.layout.reply_layout.Goals as goal

pub returns-in-Refused : goal.returns-in-Refused
returns-in-Refused c =
    let l = limits_of c.args.windows.now in
    let reply = c.in-Refused.reply in
    input_refused TellsLayout c.args.bytes.now c.args.word.now l reply.status reply.text.items []
    (subst (IsOpenedInput c.args.bytes.now c.args.word.now l) c.in-Refused.is c.in_ok-reply.ensures)

pub layout_text-requires-clause-translation : goal.layout_text-requires-clause-translation
layout_text-requires-clause-translation c =
    let l = limits_of c.args.windows.now in
    let t = c.in-Made.table in
    let m = c.in-Made.translated in
    let b = c.in-Made._board in
    let asked : IsBoardAsked c.args.bytes.now c.args.word.now l t m b =
    subst (IsOpenedInput c.args.bytes.now c.args.word.now l) c.in-Made.is c.in_ok-reply.ensures in
    translates t l asked.symbols asked.flat m b asked.made

pub layout_text-requires-clause-few : goal.layout_text-requires-clause-few
layout_text-requires-clause-few c =
    let l = limits_of c.args.windows.now in
    let t = c.in-Made.table in
    let m = c.in-Made.translated in
    let b = c.in-Made._board in
    let asked : IsBoardAsked c.args.bytes.now c.args.word.now l t m b =
    subst (IsOpenedInput c.args.bytes.now c.args.word.now l) c.in-Made.is c.in_ok-reply.ensures in
    few_states t l asked.symbols asked.flat m b asked.made (board_accepted c.args.bytes.now c.args.word.now l t m b
    asked)

pub returns-in_ok-layout_text-in-Made : goal.returns-in_ok-layout_text-in-Made
returns-in_ok-layout_text-in-Made c =
    let l = limits_of c.args.windows.now in
    let t = c.in-Made.table in
    let m = c.in-Made.translated in
    let b = c.in-Made._board in
    let asked : IsBoardAsked c.args.bytes.now c.args.word.now l t m b =
    subst (IsOpenedInput c.args.bytes.now c.args.word.now l) c.in-Made.is c.in_ok-reply.ensures in
    board_replies TellsLayout c.args.bytes.now c.args.word.now l t m b asked Done
    c.in_ok-layout_text-in-Made.field-0.items []
    (record {
      text_is = c.in_ok-layout_text-in-Made.ensures asked.flat
          (has_numbers t l asked.symbols asked.flat m b asked.made);
      done = refl;
      silent = refl;
    })
