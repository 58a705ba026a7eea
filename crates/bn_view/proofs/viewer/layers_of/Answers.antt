use Rattle.std.proofs.Common.{ap, sym, subst, ◌∙◌}
use Rattle.bn_quad.specs.Quadruples.{Quadruples, initial_of}
use Rattle.bn_view.specs.Viewed.{IsLaidOut}
use Rattle.bn_view.proofs.LawLemmas.{shown_is_found, views_stand}
use Rattle.bn_view.proofs.ViewLemmas.{laid_out, layers_head}
use Rattle.bn_view.proofs.viewer.layers_of.Goals as goal

pub view_board-requires : goal.view_board-requires
view_board-requires c =
    let is = c.requires in
    subst (λ (m : Quadruples). IsLaidOut m c.args.board.now.layout)
    (sym (c.machine-machine.ensures.value ∙ c.machine.ensures.value))
    (laid_out is.0 is.1 is.2 is.3 c.args.translated.now c.args.board.now is.4)

pub head_of-requires : goal.head_of-requires
head_of-requires c =
    layers_head c.args.translated.now c.args.board.now (initial_of c.machine-machine.result.now.rules)
    c.in_ok-place.field-0
    (ap (λ (m : Quadruples). initial_of m.rules) (c.machine-machine.ensures.value ∙ c.machine.ensures.value))
    c.in_ok-place.ensures.view shown_is_found views_stand c.view_board.ensures.kept c.requires
