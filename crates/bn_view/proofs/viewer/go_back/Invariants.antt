use Rattle.bn_view.proofs.BackLemmas.{HasGoneBack}
use Rattle.bn_view.proofs.viewer.go_back.Given as goal

abbrev pub invariant-steps : goal.invariant-steps
invariant-steps l = HasGoneBack l.fn.board l.board

abbrev pub decreases-steps : goal.decreases-steps
decreases-steps l = l.board.config.steps
