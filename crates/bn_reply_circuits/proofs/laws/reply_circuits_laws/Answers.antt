use Rattle.bn_reply_circuits.proofs.ComeBackLemmas.{farms-come_back}
use Rattle.bn_reply_circuits.proofs.FarmReplyLemmas.{farm-settled}
use Rattle.bn_reply_circuits.proofs.MirrorBoardLemmas.{boards-come_back}
use Rattle.bn_reply_circuits.proofs.MirrorLemmas.{mirror_settled, mirrored_texts-come_back}
use Rattle.bn_reply_circuits.proofs.PlanReplyLemmas.{plan_settled}
use Rattle.bn_reply_circuits.proofs.RealiseLemmas.{realise_settled}
use Rattle.bn_reply_circuits.proofs.ElementReplyLemmas.{element_settled}
use Rattle.bn_reply_circuits.proofs.laws.reply_circuits_laws.Goals as goal

pub returns : goal.returns
returns _ = record {
  farm_has_one_reply = farm-settled;
  farms_come_back = farms-come_back;
  mirror_has_one_reply = mirror_settled;
  mirrored_texts_come_back = mirrored_texts-come_back;
  boards_come_back = boards-come_back;
  plan_has_one_reply = plan_settled;
  realise_has_one_reply = realise_settled;
  element_has_one_reply = element_settled;
}
