use Rattle.std.proofs.Common.{[], subst}
use Rattle.bn_network_assembly.specs.Assembled.{limits_of}
use Rattle.bn_reply_relations.specs.CompileReply.{CompileReplies, TellsStart}
use Rattle.bn_reply_relations.proofs.SpelledLemmas.{boards-spelled}
use Rattle.bn_boards.proofs.ClosedLemmas.{read_off}
use Rattle.bn_reply_boards.specs.Opened.{IsOpenedInput}
use Rattle.bn_reply_boards.proofs.AskedLemmas.{input_refused}
use Rattle.bn_reply_boards.proofs.MadeLemmas.{will_compile}
use Rattle.bn_reply_circuits.proofs.UnwrittenLemmas.{line_will}
use Rattle.bn_reply_boards.proofs.compile.start_of.Goals as goal

pub returns-in-Refused : goal.returns-in-Refused
returns-in-Refused c =
    let l = limits_of c.args.windows.now in
    let reply = c.in-Refused.reply in
    line_will (CompileReplies c.args.word.now l c.args.bytes.now) reply
    (input_refused (λ t. TellsStart) c.args.bytes.now c.args.word.now l reply.status reply.text.items []
    (subst (IsOpenedInput c.args.bytes.now c.args.word.now l) c.in-Refused.is c.in_ok-reply.ensures))

pub returns : goal.returns
returns c =
    let l = limits_of c.args.windows.now in
    will_compile (boards-spelled read_off) c.args.bytes.now c.args.word.now l c.in-Made.field-0 c.in-Made.field-1
    c.in-Made.board
    (subst (IsOpenedInput c.args.bytes.now c.args.word.now l) c.in-Made.is c.in_ok-reply.ensures) c.board_config.result
    c.board_config.ensures.version c.board_config.ensures.spelling
