use Rattle.bn_reply_erase.proofs.BothLemmas.{erasing_runs_tell_both}
use Rattle.bn_reply_erase.proofs.SettledLemmas.{erase_settled, erase_run_settled}
use Rattle.bn_reply_erase.proofs.InverseSizeLemmas.{inverse-read}
use Rattle.bn_reply_erase.proofs.PrintedSizeLemmas.{bennett-read, erase-read}
use Rattle.bn_reply_erase.proofs.laws.reply_erase_laws.Goals as goal

pub returns : goal.returns
returns _ = record {
  erase_has_one_reply = erase_settled;
  erase_run_has_one_reply = erase_run_settled;
  erasing_runs_tell_both = erasing_runs_tell_both;
  bennett_texts_may_be_read = bennett-read;
  erase_texts_may_be_read = erase-read;
  inverse_texts_may_be_read = inverse-read;
}
