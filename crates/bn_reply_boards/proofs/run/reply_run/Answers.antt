use Rattle.std.proofs.Common.{[], subst}
use Rattle.bn_network_assembly.specs.Assembled.{limits_of}
use Rattle.bn_boards.proofs.ExitLemmas.{exits-one}
use Rattle.bn_boards.proofs.ClosedLemmas.{run_to_exit}
use Rattle.bn_reply_relations.specs.RunReply.{RunReplies, TellsRun}
use Rattle.bn_reply_relations.proofs.ClosedLemmas.{moments}
use Rattle.bn_reply_relations.proofs.RunLemmas.{exits-named}
use Rattle.bn_reply_boards.specs.Opened.{IsBoardAsked, IsOpenedInput}
use Rattle.bn_reply_boards.specs.Running.{TellsFound}
use Rattle.bn_reply_boards.proofs.AnsweredLemmas.{answered_as, answered_reply}
use Rattle.bn_reply_boards.proofs.AskedLemmas.{input_refused}
use Rattle.bn_reply_boards.proofs.RunLemmas.{asked_letters, asked_names, asked_runs, asked_start}
use Rattle.bn_reply_boards.proofs.run.reply_run.Given.{Over}
use Rattle.bn_reply_boards.proofs.run.reply_run.Goals as goal

asked : (g : Over) (c : goal.After-run_board-arg-1 g)
    → IsBoardAsked c.args.bytes.now c.args.word.now (limits_of c.args.windows.now) c.in-Made.table c.in-Made.translated
    c.in-Made.board
asked g c = subst (IsOpenedInput c.args.bytes.now c.args.word.now (limits_of c.args.windows.now)) c.in-Made.is
    c.in_ok-reply.ensures

pub run_board-requires-clause-names : goal.run_board-requires-clause-names
run_board-requires-clause-names g c =
    asked_names c.args.given c.args.bytes.now c.args.word.now (limits_of c.args.windows.now) c.in-Made.table
    c.in-Made.translated c.in-Made.board (asked g c)
    exits-one run_to_exit

pub run_board-requires-clause-one : goal.run_board-requires-clause-one
run_board-requires-clause-one g c =
    (asked_letters c.args.given c.args.bytes.now c.args.word.now (limits_of c.args.windows.now) c.in-Made.table
    c.in-Made.translated c.in-Made.board (asked g c)).0

pub run_board-requires-clause-three : goal.run_board-requires-clause-three
run_board-requires-clause-three g c =
    (asked_letters c.args.given c.args.bytes.now c.args.word.now (limits_of c.args.windows.now) c.in-Made.table
    c.in-Made.translated c.in-Made.board (asked g c)).1

pub returns-in-Refused-clause-replied : goal.returns-in-Refused-clause-replied
returns-in-Refused-clause-replied g c =
    let l = limits_of c.args.windows.now in
    let reply = c.in-Refused.reply in
    (answered_reply (RunReplies c.args.given c.args.word.now l c.args.bytes.now) reply (g.W.Watch.told c.args.watch.now)
    (input_refused (TellsRun c.args.given) c.args.bytes.now c.args.word.now l reply.status reply.text.items []
    (subst (IsOpenedInput c.args.bytes.now c.args.word.now l) c.in-Refused.is c.in_ok-reply.ensures))).replied

pub returns-in-Made-clause-replied : goal.returns-in-Made-clause-replied
returns-in-Made-clause-replied g c =
    let l = limits_of c.args.windows.now in
    let bytes = c.args.bytes.now in
    let word = c.args.word.now in
    let t = c.in-Made.table in
    let m = c.in-Made.translated in
    let b = c.in-Made.board in
    let is : IsBoardAsked bytes word l t m b = subst (IsOpenedInput bytes word l) c.in-Made.is c.in_ok-reply.ensures in
    (answered_as (TellsFound c.args.given t is.flat) (RunReplies c.args.given word l bytes)
    (asked_runs c.args.given bytes word l t m b is (exits-named run_to_exit) moments)
    c.run_board.result (g.W.Watch.told c.args.watch.now) (g.W.Watch.told c.run_board.new.watch)
    (c.run_board.ensures is.flat (asked_start c.args.given bytes word l t m b is))).replied

pub returns-in-Made-clause-interrupted : goal.returns-in-Made-clause-interrupted
returns-in-Made-clause-interrupted g c =
    let l = limits_of c.args.windows.now in
    let bytes = c.args.bytes.now in
    let word = c.args.word.now in
    let t = c.in-Made.table in
    let m = c.in-Made.translated in
    let b = c.in-Made.board in
    let is : IsBoardAsked bytes word l t m b = subst (IsOpenedInput bytes word l) c.in-Made.is c.in_ok-reply.ensures in
    (answered_as (TellsFound c.args.given t is.flat) (RunReplies c.args.given word l bytes)
    (asked_runs c.args.given bytes word l t m b is (exits-named run_to_exit) moments)
    c.run_board.result (g.W.Watch.told c.args.watch.now) (g.W.Watch.told c.run_board.new.watch)
    (c.run_board.ensures is.flat (asked_start c.args.given bytes word l t m b is))).interrupted
