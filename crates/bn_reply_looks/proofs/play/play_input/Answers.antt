use Rattle.std.proofs.Common.{[], subst}
use Rattle.bn_network_assembly.specs.Assembled.{limits_of}
use Rattle.bn_network.specs.Starts.{words_on}
use Rattle.bn_qtable.specs.TapeWords.{tape_words_of}
use Rattle.bn_reply_builds.specs.Opened.{IsBuildAsked, IsOpenedBuild}
use Rattle.bn_reply_builds.proofs.OpenedLemmas.{refused_as}
use Rattle.bn_reply_looks.specs.PlayReply.{TellsPlay}
use Rattle.bn_reply_looks.proofs.ReplyLemmas.{asked_shown, play_replies}
use Rattle.bn_reply_looks.proofs.play.play_input.Goals as goal

pub play_board-requires-clause-shown : goal.play_board-requires-clause-shown
play_board-requires-clause-shown c =
    let l = limits_of c.args.windows.now in
    let words = tape_words_of c.args.words.now in
    let table = c.args.table.now in
    asked_shown words l table c.in-Made.machine c.in-Made.names c.in-Made.board
    (subst (IsOpenedBuild words l table) c.in-Made.is c.in_ok-reply.ensures)

pub play_board-requires-clause-kept : goal.play_board-requires-clause-kept
play_board-requires-clause-kept c =
    let l = limits_of c.args.windows.now in
    let words = tape_words_of c.args.words.now in
    let table = c.args.table.now in
    let asked : IsBuildAsked words l table c.in-Made.machine c.in-Made.names c.in-Made.board =
    subst (IsOpenedBuild words l table) c.in-Made.is c.in_ok-reply.ensures in
    asked.board.kept

pub returns-in-Refused : goal.returns-in-Refused
returns-in-Refused c =
    let l = limits_of c.args.windows.now in
    let words = tape_words_of c.args.words.now in
    let table = c.args.table.now in
    let reply = c.in-Refused.reply in
    refused_as (λ t one two three. TellsPlay c.args.script.now t (words_on t.machine one two three)) words l table
    reply.status reply.text.items [] (subst (IsOpenedBuild words l table) c.in-Refused.is c.in_ok-reply.ensures)

pub returns-in-Made : goal.returns-in-Made
returns-in-Made c =
    let l = limits_of c.args.windows.now in
    let words = tape_words_of c.args.words.now in
    let table = c.args.table.now in
    play_replies words l table c.in-Made.machine c.in-Made.names c.in-Made.board
    (subst (IsOpenedBuild words l table) c.in-Made.is c.in_ok-reply.ensures) c.args.script.now c.play_board.result
    c.play_board.ensures
