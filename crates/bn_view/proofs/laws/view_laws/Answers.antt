use Rattle.bn_view.proofs.LawLemmas.{shown_is_found, views_stand, views_are_one-one, views_are_one-there}
use Rattle.bn_view.proofs.ModuleLemmas.{modules-one}
use Rattle.bn_view.proofs.ShownLemmas.{shown-one, shown-there}
use Rattle.bn_view.proofs.laws.view_laws.Goals as goal

pub returns : goal.returns
returns _ = record {
  shown_is_one = (shown-one, shown-there);
  shown_is_found = shown_is_found;
  modules_are_one = modules-one;
  views_stand = views_stand;
  views_are_one = (views_are_one-one, views_are_one-there);
}
