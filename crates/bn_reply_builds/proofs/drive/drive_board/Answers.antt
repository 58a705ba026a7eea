use Rattle.bn_reply_builds.proofs.DriveReplyLemmas.{answered}
use Rattle.bn_reply_builds.proofs.drive.drive_board.Goals as goal

pub returns : goal.returns
returns g c = λ l f start built board.
    answered c.args.most_steps c.requires.steps c.args.machine.now c.args.names.now l f start c.args.board.now
    c.run_for-quadruple_steps.new.board built board
    c.run_for-quadruple_steps.result c.run_for-quadruple_steps.ensures.steps c.run_for-quadruple_steps.ensures.run
    c.run_for-quadruple_steps.ensures.same
    c.tell_outcome.result c.tell_outcome.ensures (g.W.Watch.told c.args.watch.now)
    (g.W.Watch.told c.run_for-quadruple_steps.new.watch)
    c.run_for-quadruple_steps.ensures.told
