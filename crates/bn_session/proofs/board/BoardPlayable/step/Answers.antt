use Rattle.bn_session.proofs.WalkLemmas.{board_stepped, board_kept}
use Rattle.bn_session.proofs.board.BoardPlayable.step.Goals as goal

pub returns-clause-made : goal.returns-clause-made
returns-clause-made g c =
    board_stepped c.args.self.now c.step_along.new.self c.args.direction c.step_along.result c.step_along.ensures.made
    c.step_along.ensures.kept c.step_along.ensures.ended c.step_along.ensures.same c.step_along.ensures.board

pub returns-clause-kept : goal.returns-clause-kept
returns-clause-kept g c = board_kept c.args.self.now c.step_along.new.self c.step_along.result c.step_along.ensures.kept
