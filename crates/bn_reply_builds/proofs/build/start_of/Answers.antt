use Rattle.std.specs.Prelude.{[]}
use Rattle.std.proofs.Common.{subst}
use Rattle.bn_qtable.specs.TapeWords.{tape_words_of}
use Rattle.bn_network_assembly.specs.Assembled.{limits_of}
use Rattle.bn_network.specs.Starts.{words_on}
use Rattle.bn_reply_circuits.proofs.UnwrittenLemmas.{line_will}
use Rattle.bn_reply_builds.specs.BuildReply.{BuildReplies, TellsBuild}
use Rattle.bn_reply_builds.specs.Opened.{IsOpenedBuild}
use Rattle.bn_reply_builds.proofs.OpenedLemmas.{asked_will, refused_as}
use Rattle.bn_reply_builds.proofs.build.start_of.Goals as goal

pub returns-in-Refused : goal.returns-in-Refused
returns-in-Refused c =
    let words = tape_words_of c.args.words.now in
    let l = limits_of c.args.windows.now in
    let bytes = c.args.bytes.now in
    let reply = c.in-Refused.reply in
    line_will (BuildReplies words l bytes) reply
    (refused_as (λ t one two three. TellsBuild (words_on t.machine one two three)) words l bytes reply.status
    reply.text.items [] (subst (IsOpenedBuild words l bytes) c.in-Refused.is c.in_ok-reply.ensures))

pub returns : goal.returns
returns c =
    let words = tape_words_of c.args.words.now in
    let l = limits_of c.args.windows.now in
    let bytes = c.args.bytes.now in
    asked_will words l bytes _ _ c.in-Made.board
    (subst (IsOpenedBuild words l bytes) c.in-Made.is c.in_ok-reply.ensures)
    c.board_config.result c.board_config.ensures.version c.board_config.ensures.spelling
