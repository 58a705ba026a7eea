use Rattle.bn_network_assembly.specs.Assembled.{limits_of}
use Rattle.bn_network.specs.Starts.{words_on}
use Rattle.bn_qtable.specs.TapeWords.{tape_words_of}
use Rattle.bn_reply_builds.specs.BuildReply.{BuiltReplies}
use Rattle.bn_reply_scripts.proofs.ScriptLemmas.{cut_replies}
use Rattle.bn_reply_looks.specs.PlayReply.{TellsPlay}
use Rattle.bn_reply_looks.proofs.play.reply_play.Goals as goal

pub returns-in-Some : goal.returns-in-Some
returns-in-Some c =
    cut_replies (λ table script. BuiltReplies (λ t one two three. TellsPlay script t (words_on t.machine one two three))
    (tape_words_of c.args.words.now) (limits_of c.args.windows.now) table) c.args.bytes.now c.in-Some.table.now
    c.in-Some.script.now c.in-Some.ensures c.play_input.result c.play_input.ensures
