use Rattle.bn_reply_machines.proofs.BennettLemmas.{bennett_settled}
use Rattle.bn_reply_machines.proofs.CheckLemmas.{check_settled}
use Rattle.bn_reply_machines.proofs.LawLemmas.{inverse_reply_laws}
use Rattle.bn_reply_machines.proofs.MachineLemmas.{machine_settled}
use Rattle.bn_reply_machines.proofs.ReversibleLemmas.{reversible_settled}
use Rattle.bn_reply_machines.proofs.StandardLemmas.{standard_settled}
use Rattle.bn_reply_machines.proofs.laws.reply_machines_laws.Goals as goal

pub returns : goal.returns
returns _ = record {
  bennett_has_one_reply = bennett_settled;
  check_has_one_reply = check_settled;
  inverse_reply_laws = inverse_reply_laws;
  machine_has_one_reply = machine_settled;
  reversible_has_one_reply = reversible_settled;
  standard_has_one_reply = standard_settled;
}
