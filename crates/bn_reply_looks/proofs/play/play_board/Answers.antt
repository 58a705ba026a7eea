use Rattle.bn_reply_looks.proofs.ReplyLemmas.{played_replies, refused_replies}
use Rattle.bn_reply_looks.proofs.play.play_board.Goals as goal

pub returns-in-Ok : goal.returns-in-Ok
returns-in-Ok c =
    played_replies c.args.machine.now c.args.names.now c.args.board.now c.args.script.now c.in-Ok.script
    c.in-Ok.ensures.read c.play_script.result c.play_script.ensures.status c.play_script.ensures.text

pub returns-in-Err : goal.returns-in-Err
returns-in-Err c =
    refused_replies c.args.machine.now c.args.names.now c.args.board.now c.args.script.now c.in-Err.refusal
    c.in-Err.ensures.refused c.refuse_script.result c.refuse_script.ensures
