use Rattle.bn_board.proofs.ReachedLemmas.{board_stepped, board_with}
use Rattle.bn_board.proofs.board.Board.step.Goals as goal

pub invariant_of-self : goal.invariant_of-self
invariant_of-self c =
    (board_stepped (board_with c.self.inside.packed c.self.inside.start c.self.inside.end c.self.inside.layout)
    c.step.new.self.net c.step.new.self.config c.self.invariant c.step.ensures.net
    c.step.ensures.good c.step.result c.step.ensures.made c.step.ensures.kept).kept

pub returns-clause-stuck : goal.returns-clause-stuck
returns-clause-stuck c = rw (← c.self.view_is) c.step.ensures.stuck

pub returns-clause-same : goal.returns-clause-same
returns-clause-same c =
    rw (← c.self.view_is) (board_stepped (board_with c.self.inside.packed c.self.inside.start c.self.inside.end
    c.self.inside.layout) c.step.new.self.net c.step.new.self.config c.self.invariant
    c.step.ensures.net c.step.ensures.good c.step.result c.step.ensures.made c.step.ensures.kept).same

pub returns-clause-board : goal.returns-clause-board
returns-clause-board c =
    (board_stepped (board_with c.self.inside.packed c.self.inside.start c.self.inside.end c.self.inside.layout)
    c.step.new.self.net c.step.new.self.config c.self.invariant c.step.ensures.net
    c.step.ensures.good c.step.result c.step.ensures.made c.step.ensures.kept).kept
