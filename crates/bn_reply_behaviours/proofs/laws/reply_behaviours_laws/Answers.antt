use Rattle.bn_reply_behaviours.specs.BehaviourReply.{behaviour_text}
use Rattle.bn_reply_behaviours.specs.CrossingsReply.{crossings_text}
use Rattle.bn_reply_behaviours.proofs.SettledLemmas.{exploring_settled}
use Rattle.bn_reply_behaviours.proofs.laws.reply_behaviours_laws.Goals as goal

pub returns : goal.returns
returns _ = record {
  behaviour_has_one_reply = exploring_settled behaviour_text;
  crossings_has_one_reply = exploring_settled crossings_text;
}
