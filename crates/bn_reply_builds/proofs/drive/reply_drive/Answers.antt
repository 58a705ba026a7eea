use Rattle.std.proofs.Common.{[], subst}
use Rattle.bn_network_assembly.specs.Assembled.{limits_of}
use Rattle.bn_network.specs.Starts.{words_on}
use Rattle.bn_qtable.specs.Rows.{table_of}
use Rattle.bn_qtable.specs.TapeWords.{tape_words_of}
use Rattle.bn_reply_boards.proofs.AnsweredLemmas.{answered_as, answered_reply}
use Rattle.bn_reply_builds.specs.Opened.{IsBuildAsked, IsOpenedBuild}
use Rattle.bn_reply_builds.proofs.OpenedLemmas.{built_replies, refused_as}
use Rattle.bn_reply_builds.specs.Driven.{TellsDrive}
use Rattle.bn_reply_builds.specs.DriveReply.{DriveReplies}
use Rattle.bn_reply_builds.proofs.drive.reply_drive.Given.{Over}
use Rattle.bn_reply_builds.proofs.drive.reply_drive.Goals as goal

asked : (g : Over) (c : goal.After-drive_board-arg-1 g)
    → IsBuildAsked (tape_words_of c.args.words.now) (limits_of c.args.windows.now) c.args.bytes.now c.in-Made.machine
    c.in-Made.names c.in-Made.board
asked g c =
    subst (IsOpenedBuild (tape_words_of c.args.words.now) (limits_of c.args.windows.now) c.args.bytes.now) c.in-Made.is
    c.in_ok-reply.ensures

pub drive_board-requires-clause-states : goal.drive_board-requires-clause-states
drive_board-requires-clause-states g c = (asked g c).table.states

pub drive_board-requires-clause-symbols : goal.drive_board-requires-clause-symbols
drive_board-requires-clause-symbols g c = (asked g c).table.symbols

pub drive_board-requires-clause-few : goal.drive_board-requires-clause-few
drive_board-requires-clause-few g c = (asked g c).uncrowded

pub returns-in-Refused-clause-replied : goal.returns-in-Refused-clause-replied
returns-in-Refused-clause-replied g c =
    let l = limits_of c.args.windows.now in
    let words = tape_words_of c.args.words.now in
    let bytes = c.args.bytes.now in
    let reply = c.in-Refused.reply in
    (answered_reply (DriveReplies words l c.args.most_steps bytes) reply (g.W.Watch.told c.args.watch.now)
    (refused_as (λ t one two three. TellsDrive c.args.most_steps t (words_on t.machine one two three)) words l bytes
    reply.status reply.text.items []
    (subst (IsOpenedBuild words l bytes) c.in-Refused.is c.in_ok-reply.ensures))).replied

pub returns-in-Made-clause-replied : goal.returns-in-Made-clause-replied
returns-in-Made-clause-replied g c =
    let l = limits_of c.args.windows.now in
    let words = tape_words_of c.args.words.now in
    let bytes = c.args.bytes.now in
    let most = c.args.most_steps in
    let m = c.in-Made.machine in
    let names = c.in-Made.names in
    let b = c.in-Made.board in
    let is : IsBuildAsked words l bytes m names b =
    subst (IsOpenedBuild words l bytes) c.in-Made.is c.in_ok-reply.ensures in
    let start = words_on m is.one is.two is.three in
    (answered_as (TellsDrive most (table_of m names) start is.build) (DriveReplies words l most bytes)
    (built_replies (λ t one two three. TellsDrive most t (words_on t.machine one two three)) words l bytes m names b is)
    c.drive_board.result (g.W.Watch.told c.args.watch.now) (g.W.Watch.told c.drive_board.new.watch)
    (c.drive_board.ensures l is.build start is.built is.board)).replied

pub returns-in-Made-clause-interrupted : goal.returns-in-Made-clause-interrupted
returns-in-Made-clause-interrupted g c =
    let l = limits_of c.args.windows.now in
    let words = tape_words_of c.args.words.now in
    let bytes = c.args.bytes.now in
    let most = c.args.most_steps in
    let m = c.in-Made.machine in
    let names = c.in-Made.names in
    let b = c.in-Made.board in
    let is : IsBuildAsked words l bytes m names b =
    subst (IsOpenedBuild words l bytes) c.in-Made.is c.in_ok-reply.ensures in
    let start = words_on m is.one is.two is.three in
    (answered_as (TellsDrive most (table_of m names) start is.build) (DriveReplies words l most bytes)
    (built_replies (λ t one two three. TellsDrive most t (words_on t.machine one two three)) words l bytes m names b is)
    c.drive_board.result (g.W.Watch.told c.args.watch.now) (g.W.Watch.told c.drive_board.new.watch)
    (c.drive_board.ensures l is.build start is.built is.board)).interrupted
