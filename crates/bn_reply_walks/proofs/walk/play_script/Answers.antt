use Rattle.bn_reply_walks.proofs.ReplyLemmas.{walk_played}
use Rattle.bn_reply_walks.proofs.walk.play_script.Goals as goal

pub returns-clause-text : goal.returns-clause-text
returns-clause-text c s of =
    walk_played s c.args.packed of c.in_ok-start.start c.in_ok-start.ensures.config c.args.script.now
    c.play_on.new.circuit.config c.new-text.result.items c.play_on.new.out.items c.new-text.ensures.items
    c.in_ok-play_on.ensures.played
