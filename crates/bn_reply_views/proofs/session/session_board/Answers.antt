use Rattle.bn_reply_views.proofs.ReplyLemmas.{played_replies, refused_replies}
use Rattle.bn_reply_views.proofs.session.session_board.Goals as goal

pub returns-in-Ok : goal.returns-in-Ok
returns-in-Ok c =
    played_replies c.args.table.now c.args.translated.now c.args.board.now c.args.script.now c.in_ok-names.names
    c.in_ok-names.ensures.names c.in-Ok.script c.in-Ok.ensures.read
    c.play_script.result c.play_script.ensures.status c.play_script.ensures.text

pub returns : goal.returns
returns c =
    refused_replies c.args.table.now c.args.translated.now c.args.board.now c.args.script.now c.in_ok-names.names
    c.in_ok-names.ensures.names c.in-Err.refusal c.in-Err.ensures.refused
    c.refuse_script.result c.refuse_script.ensures
