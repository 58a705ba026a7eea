use Rattle.std.proofs.Common.{ap, is_some}
use Rattle.bn_circuits.specs.Counting.{one_if}
use Rattle.bn_reply_boards.proofs.RunLemmas.{board_ran, found_at}
use Rattle.bn_reply_boards.proofs.run.run_to_exit.Goals as goal

pub returns-clause-ran : goal.returns-clause-ran
returns-clause-ran g c = λ f m start.
    board_ran c.args.given f m c.args.board.now start c.run_counting-moments.new.self c.budget_of-budget.result
    c.run_counting-moments.result (one_if (is_some c.moment-first.result)) c.exit_of-exit.result
    c.less_one-quadruple_steps.result
    (g.W.Watch.told c.args.watch.now) (g.W.Watch.told c.run_counting-moments.new.watch) c.budget_of-budget.ensures
    c.run_counting-moments.ensures.same
    c.run_counting-moments.ensures.run c.run_counting-moments.ensures.moments
    (ap (λ o. one_if (is_some o)) c.moment-first.ensures.moment)
    c.less_one-quadruple_steps.ensures c.exit_of-exit.ensures c.run_counting-moments.ensures.told

pub returns-clause-exit : goal.returns-clause-exit
returns-clause-exit g c =
    found_at c.args.given c.args.board.now c.run_counting-moments.new.self c.budget_of-budget.result
    c.exit_of-exit.result
    c.budget_of-budget.ensures c.run_counting-moments.ensures.same c.run_counting-moments.ensures.run
    c.exit_of-exit.ensures
