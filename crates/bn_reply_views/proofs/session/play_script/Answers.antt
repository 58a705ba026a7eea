use Rattle.bn_reply_views.proofs.ShowingLemmas.{answer_played}
use Rattle.bn_reply_views.proofs.session.play_script.Goals as goal

pub returns-clause-text : goal.returns-clause-text
returns-clause-text c word l f is start =
    answer_played c.args.table.now c.args.translated.now c.args.board.now c.play.ensures.kept word l f is start
    c.args.script.now c.play.new.board.config c.new-text.result.items c.play.new.out.items
    c.new-text.ensures.items c.in_ok-play.ensures.played
