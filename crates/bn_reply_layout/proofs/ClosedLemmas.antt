-- The law on what `layout` answers with the laws below it put in, for the crate above that cites it as it is.
use Rattle.bn_table.proofs.MachineLemmas.{tables_machines}
use Rattle.bn_boards.proofs.ClosedLemmas.{flats_one, flats_there}
use Rattle.bn_reply_relations.proofs.ClosedLemmas.{counted}
use Rattle.bn_reply_layout.proofs.SettledLemmas.{layout_settled}
use Rattle.bn_reply_layout.specs.LayoutReply.{LayoutIsSettled}

pub layout_is_settled : LayoutIsSettled
layout_is_settled = layout_settled tables_machines flats_there flats_one counted
