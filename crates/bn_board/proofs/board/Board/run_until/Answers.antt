use Rattle.bn_board.proofs.NetworkLemmas.{kept-IsLeapable}
use Rattle.bn_board.proofs.ReachedLemmas.{board_ran, board_with}
use Rattle.bn_packed.specs.declared.direction.Direction.TheVariants.{Forward}
use Rattle.bn_board.proofs.board.Board.run_until.Goals as goal

pub run_leaping_until-requires : goal.run_leaping_until-requires
run_leaping_until-requires g c =
    kept-IsLeapable (board_with c.self.inside.packed c.self.inside.start c.self.inside.end c.self.inside.layout)
    c.self.invariant

pub invariant_of-self : goal.invariant_of-self
invariant_of-self g c =
    (board_ran (board_with c.self.inside.packed c.self.inside.start c.self.inside.end c.self.inside.layout)
    c.run_leaping_until.new.packed.net c.run_leaping_until.new.packed.config c.self.invariant
    c.run_leaping_until.ensures.net c.run_leaping_until.ensures.ran.good Forward c.run_leaping_until.result
    c.run_leaping_until.ensures.ran.made).kept

pub returns-clause-ran : goal.returns-clause-ran
returns-clause-ran g c = rw (← c.self.view_is) c.run_leaping_until.ensures.ran

pub returns-clause-same : goal.returns-clause-same
returns-clause-same g c =
    rw (← c.self.view_is) (board_ran (board_with c.self.inside.packed c.self.inside.start c.self.inside.end
    c.self.inside.layout) c.run_leaping_until.new.packed.net c.run_leaping_until.new.packed.config c.self.invariant
    c.run_leaping_until.ensures.net c.run_leaping_until.ensures.ran.good Forward c.run_leaping_until.result
    c.run_leaping_until.ensures.ran.made).same

pub returns-clause-kept : goal.returns-clause-kept
returns-clause-kept g c =
    (board_ran (board_with c.self.inside.packed c.self.inside.start c.self.inside.end c.self.inside.layout)
    c.run_leaping_until.new.packed.net c.run_leaping_until.new.packed.config c.self.invariant
    c.run_leaping_until.ensures.net c.run_leaping_until.ensures.ran.good Forward c.run_leaping_until.result
    c.run_leaping_until.ensures.ran.made).kept
