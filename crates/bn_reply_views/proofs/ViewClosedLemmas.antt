-- The law on the answers of `view` with the laws below it put in, for the crates above that cite it as it is.
use Rattle.bn_table.proofs.MachineLemmas.{tables_machines}
use Rattle.bn_boards.proofs.ExitLemmas.{exits-one}
use Rattle.bn_reply_relations.proofs.ClosedLemmas.{counted}
use Rattle.bn_boards.proofs.ClosedLemmas.{flats_one, flats_there, read_off, run_to_exit}
use Rattle.bn_reply_relations.proofs.RunLemmas.{exits-named}
use Rattle.bn_view.specs.Laws.{ViewsAreOne, ViewsAreThere}
use Rattle.bn_view.proofs.OneLemmas.{views-one, views-there}
use Rattle.bn_reply_views.specs.ViewReply.{ViewIsSettled}
use Rattle.bn_reply_views.proofs.ViewSettledLemmas as settled
use Rattle.bn_view.proofs.LawLemmas.{shown_is_found as found, views_stand as views}

pub one : ViewsAreOne
one = views-one exits-one found

pub there : ViewsAreThere
there = views-there exits-one read_off run_to_exit found views

-- `view` has one answer
pub view_settled : ViewIsSettled
view_settled = settled.view_settled tables_machines flats_there flats_one counted (exits-named run_to_exit) one there
