use Rattle.bn_board.proofs.NetworkLemmas.{kept-IsLeapable}
use Rattle.bn_board.proofs.ReachedLemmas.{board_ran, board_with}
use Rattle.bn_packed.specs.declared.direction.Direction.TheVariants.{Forward}
use Rattle.bn_board.proofs.board.Board.run.Goals as goal

pub run_leaping-requires : goal.run_leaping-requires
run_leaping-requires c =
    kept-IsLeapable (board_with c.self.inside.packed c.self.inside.start c.self.inside.end c.self.inside.layout)
    c.self.invariant

pub invariant_of-self : goal.invariant_of-self
invariant_of-self c =
    (board_ran (board_with c.self.inside.packed c.self.inside.start c.self.inside.end c.self.inside.layout)
    c.run_leaping.new.packed.net c.run_leaping.new.packed.config c.self.invariant c.run_leaping.ensures.net
    c.run_leaping.ensures.ran.good Forward c.run_leaping.result c.run_leaping.ensures.ran.made).kept

pub returns-clause-ran : goal.returns-clause-ran
returns-clause-ran c = rw (← c.self.view_is) c.run_leaping.ensures.ran

pub returns-clause-same : goal.returns-clause-same
returns-clause-same c =
    rw (← c.self.view_is) (board_ran (board_with c.self.inside.packed c.self.inside.start c.self.inside.end
    c.self.inside.layout) c.run_leaping.new.packed.net c.run_leaping.new.packed.config c.self.invariant
    c.run_leaping.ensures.net c.run_leaping.ensures.ran.good Forward c.run_leaping.result
    c.run_leaping.ensures.ran.made).same
