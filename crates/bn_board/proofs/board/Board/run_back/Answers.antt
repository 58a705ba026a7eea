use Rattle.bn_board.proofs.ReachedLemmas.{board_ran, board_with}
use Rattle.bn_packed.specs.declared.direction.Direction.TheVariants.{Backward}
use Rattle.bn_board.proofs.board.Board.run_back.Goals as goal

pub invariant_of-self : goal.invariant_of-self
invariant_of-self c =
    (board_ran (board_with c.self.inside.packed c.self.inside.start c.self.inside.end c.self.inside.layout)
    c.run_back.new.self.net c.run_back.new.self.config c.self.invariant c.run_back.ensures.net
    c.run_back.ensures.ran.good Backward c.run_back.result c.run_back.ensures.ran.made).kept

pub returns-clause-ran : goal.returns-clause-ran
returns-clause-ran c = rw (← c.self.view_is) c.run_back.ensures.ran

pub returns-clause-same : goal.returns-clause-same
returns-clause-same c =
    rw (← c.self.view_is) (board_ran (board_with c.self.inside.packed c.self.inside.start c.self.inside.end
    c.self.inside.layout) c.run_back.new.self.net c.run_back.new.self.config c.self.invariant c.run_back.ensures.net
    c.run_back.ensures.ran.good Backward c.run_back.result c.run_back.ensures.ran.made).same
