-- The laws of this crate that follow from those of the crates below it, each proved.
use Rattle.bn_boards.proofs.ClosedLemmas.{run_to_exit, have_moments, uniform, stand, read_off}
use Rattle.bn_boards.proofs.ExitLemmas.{exits-one}
use Rattle.bn_network.proofs.ExistingLemmas.{have-entries}
use Rattle.bn_network_laws.proofs.FirstLemmas.{first-moment}
use Rattle.bn_rsm.proofs.CostLemmas.{costs-bounded}
use Rattle.bn_view.proofs.OneLemmas.{views-one, views-there}
use Rattle.bn_view.proofs.StandingLemmas.{shown-found, views-stand}
use Rattle.bn_view.specs.Laws.{ShownIsFound, ViewsStand, ViewsAreOne, ViewsAreThere}

pub shown_is_found : ShownIsFound
shown_is_found = shown-found run_to_exit have_moments

pub views_stand : ViewsStand
views_stand = views-stand uniform stand (first-moment costs-bounded have-entries) read_off run_to_exit have_moments

pub views_are_one-one : ViewsAreOne
views_are_one-one = views-one exits-one shown_is_found

pub views_are_one-there : ViewsAreThere
views_are_one-there = views-there exits-one read_off run_to_exit shown_is_found views_stand
