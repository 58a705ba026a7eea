use Rattle.bn_view.proofs.ViewLemmas.{last_moment}
use Rattle.bn_view.proofs.viewer.last_moment.Goals as goal

pub returns-clause-moment : goal.returns-clause-moment
returns-clause-moment c =
    last_moment c.args.board.now c.in_ok-last.last c.go_back-state.new.board c.args.initial c.go_back-state.result
    c.in_ok-tapes.tapes c.in_ok-last.ensures.same
    c.go_back-state.ensures.same c.go_back-state.ensures.kept c.go_back-state.ensures.shown c.in_ok-tapes.ensures
