use Rattle.bn_reply_windows.proofs.WindowLemmas.{window_settled}
use Rattle.bn_reply_windows.proofs.laws.reply_windows_laws.Goals as goal

pub returns : goal.returns
returns c = record { window_has_one_reply = window_settled }
