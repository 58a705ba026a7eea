use Rattle.std.proofs.lemmas.Result.{IfOk-weaker}
use Rattle.bn_view.proofs.LawLemmas.{shown_is_found, views_stand}
use Rattle.bn_view.proofs.ViewLemmas.{place_from_start, shows_machine, view_of}
use Rattle.bn_view.proofs.viewer.view.Goals as goal

pub returns-clause-from_start : goal.returns-clause-from_start
returns-clause-from_start c =
    IfOk-weaker c.layers_of.result _ _ (λ v h. place_from_start c.args.translated.now c.args.board.now
    c.layers_of.ensures.kept v h) c.layers_of.ensures.view

pub returns-clause-view : goal.returns-clause-view
returns-clause-view c =
    IfOk-weaker c.layers_of.result _ _ (λ v h p word l f is.
    view_of p word l f c.args.translated.now c.args.board.now is shown_is_found c.layers_of.ensures.kept v h)
    c.layers_of.ensures.view

pub returns-clause-machine : goal.returns-clause-machine
returns-clause-machine c =
    IfOk-weaker c.layers_of.result _ _ (λ v h p word l f is.
    shows_machine p word l f c.args.translated.now c.args.board.now is shown_is_found c.layers_of.ensures.kept
    views_stand v h)
    c.layers_of.ensures.view
