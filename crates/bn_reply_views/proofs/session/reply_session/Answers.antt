use Rattle.bn_network_assembly.specs.Assembled.{limits_of}
use Rattle.bn_reply_relations.specs.Windows.{WindowReplies}
use Rattle.bn_reply_views.specs.SessionReply.{TellsSession}
use Rattle.bn_reply_scripts.proofs.ScriptLemmas.{cut_replies}
use Rattle.bn_reply_views.proofs.session.reply_session.Goals as goal

pub returns-in-Some : goal.returns-in-Some
returns-in-Some c =
    cut_replies (λ table script. WindowReplies (TellsSession script) c.args.word.now (limits_of c.args.windows.now)
    table) c.args.bytes.now c.in-Some.table.now c.in-Some.script.now c.in-Some.ensures
    c.session_input.result c.session_input.ensures
