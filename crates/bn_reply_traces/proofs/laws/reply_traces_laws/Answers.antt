use Rattle.bn_reply_traces.proofs.MomentsSettled.{moments_are_settled}
use Rattle.bn_reply_traces.proofs.TraceLemmas.{all_settled}
use Rattle.bn_reply_traces.proofs.laws.reply_traces_laws.Goals as goal

pub returns : goal.returns
returns _ = record {
  trace_has_one_reply = all_settled;
  moments_have_one_reply = moments_are_settled;
}
