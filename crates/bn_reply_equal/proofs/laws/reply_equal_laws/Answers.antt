use Rattle.bn_reply_equal.proofs.SettledLemmas.{equal_settled}
use Rattle.bn_reply_equal.proofs.laws.reply_equal_laws.Goals as goal

pub returns : goal.returns
returns c = record { equal_has_one_reply = equal_settled }
