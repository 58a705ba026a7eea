-- The laws of this crate that follow from those of the crates below it, each proved.
use Rattle.bn_boards.proofs.ClosedLemmas.{flats_one, flats_there, run_to_exit}
use Rattle.bn_reply_relations.proofs.ClosedLemmas.{counted}
use Rattle.bn_reply_relations.proofs.RunLemmas.{exits-named}
use Rattle.bn_reply_relations.proofs.SettledLemmas.{circuits_settled}
use Rattle.bn_reply_views.proofs.SessionSettledLemmas.{session_settled}
use Rattle.bn_reply_views.proofs.SteppedLemmas.{views-show_steps}
use Rattle.bn_reply_views.proofs.ViewSettledLemmas.{view_settled}
use Rattle.bn_reply_views.specs.SessionReply.{SessionIsSettled}
use Rattle.bn_reply_views.specs.ViewLaws.{ViewsShowSteps}
use Rattle.bn_reply_views.specs.ViewReply.{ViewIsSettled}
use Rattle.bn_table.proofs.MachineLemmas.{tables_machines}
use Rattle.bn_view.proofs.LawLemmas.{views_are_one-one, views_are_one-there}

pub session_has_one_reply : SessionIsSettled
session_has_one_reply = session_settled tables_machines flats_there flats_one counted views_are_one-one
    views_are_one-there

pub view_has_one_reply : ViewIsSettled
view_has_one_reply = view_settled tables_machines flats_there flats_one counted (exits-named run_to_exit)
    views_are_one-one views_are_one-there

pub views_show_steps : ViewsShowSteps
views_show_steps = views-show_steps tables_machines flats_one circuits_settled
