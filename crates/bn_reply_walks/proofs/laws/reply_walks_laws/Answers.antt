use Rattle.bn_reply_walks.proofs.SettledLemmas.{walk_settled}
use Rattle.bn_reply_walks.proofs.ViewLemmas.{turned_are}
use Rattle.bn_reply_walks.proofs.laws.reply_walks_laws.Goals as goal

pub returns : goal.returns
returns _ = record { walk_has_one_reply = walk_settled; views_name_turned_bars = turned_are }
