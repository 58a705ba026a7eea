use Rattle.bn_reply_looks.proofs.MachineLemmas.{looks-tell}
use Rattle.bn_reply_looks.proofs.SettledLemmas.{look_settled, play_settled}
use Rattle.bn_reply_looks.proofs.laws.reply_looks_laws.Goals as goal

pub returns : goal.returns
returns _ = record {
  look_has_one_reply = look_settled;
  looks_tell_their_machine = looks-tell;
  play_has_one_reply = play_settled;
}
