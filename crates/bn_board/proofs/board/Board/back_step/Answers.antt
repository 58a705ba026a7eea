use Rattle.bn_board.proofs.ReachedLemmas.{board_stepped_back, board_with}
use Rattle.bn_board.proofs.board.Board.back_step.Goals as goal

pub invariant_of-self : goal.invariant_of-self
invariant_of-self c =
    (board_stepped_back (board_with c.self.inside.packed c.self.inside.start c.self.inside.end c.self.inside.layout)
    c.back_step.new.self.net c.back_step.new.self.config c.self.invariant
    c.back_step.ensures.net c.back_step.ensures.good c.back_step.result c.back_step.ensures.made
    c.back_step.ensures.kept).kept

pub returns-clause-first : goal.returns-clause-first
returns-clause-first c = rw (← c.self.view_is) c.back_step.ensures.first

pub returns-clause-same : goal.returns-clause-same
returns-clause-same c =
    rw (← c.self.view_is) (board_stepped_back (board_with c.self.inside.packed c.self.inside.start c.self.inside.end
    c.self.inside.layout) c.back_step.new.self.net c.back_step.new.self.config c.self.invariant
    c.back_step.ensures.net c.back_step.ensures.good c.back_step.result c.back_step.ensures.made
    c.back_step.ensures.kept).same

pub returns-clause-board : goal.returns-clause-board
returns-clause-board c =
    (board_stepped_back (board_with c.self.inside.packed c.self.inside.start c.self.inside.end c.self.inside.layout)
    c.back_step.new.self.net c.back_step.new.self.config c.self.invariant
    c.back_step.ensures.net c.back_step.ensures.good c.back_step.result c.back_step.ensures.made
    c.back_step.ensures.kept).kept
