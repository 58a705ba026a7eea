-- The law on the answers of `session` with the laws below it put in, for the crates above that cite it as it is.
use Rattle.bn_table.proofs.MachineLemmas.{tables_machines}
use Rattle.bn_reply_relations.proofs.ClosedLemmas.{counted}
use Rattle.bn_boards.proofs.ClosedLemmas.{flats_one, flats_there}
use Rattle.bn_reply_views.proofs.ViewClosedLemmas.{one, there}
use Rattle.bn_reply_views.specs.SessionReply.{SessionIsSettled}
use Rattle.bn_reply_views.proofs.SessionSettledLemmas as settled

-- `session` has one answer
pub session_settled : SessionIsSettled
session_settled = settled.session_settled tables_machines flats_there flats_one counted one there
