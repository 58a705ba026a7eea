use Rattle.bn_reply_looks.proofs.ReplyLemmas.{answer_played}
use Rattle.bn_reply_looks.proofs.play.play_script.Goals as goal

pub returns-clause-text : goal.returns-clause-text
returns-clause-text c f start of begun =
    answer_played c.args.machine.now c.args.names.now c.args.board.now c.requires.kept f start of begun
    c.args.script.now
    c.play.new.board.config c.new-text.result.items c.play.new.out.items c.new-text.ensures.items
    c.in_ok-play.ensures.played
