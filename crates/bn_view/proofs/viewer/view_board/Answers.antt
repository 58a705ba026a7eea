use Rattle.std.proofs.Common.{subst}
use Rattle.bn_view.specs.Shown.{IsShown}
use Rattle.bn_view.proofs.BackLemmas.{FindsOn}
use Rattle.bn_view.proofs.ViewLemmas.{laid_state}
use Rattle.bn_view.proofs.viewer.view_board.Goals as goal

pub returns-clause-known : goal.returns-clause-known
returns-clause-known c =
    let b = c.args.board.now in
    let last = c.in_ok-state.field-0 in
    let at = c.in_ok-state.ensures.moment in
    laid_state c.args.machine.now b c.requires at.step last.state
    (subst (λ n. IsShown (FindsOn b) n b.config.steps at.step last.state) c.initial_state.ensures at.shown)
