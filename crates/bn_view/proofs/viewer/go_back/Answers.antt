use Rattle.std.proofs.Common.{sym, ◌∙◌}
use Rattle.bn_view.proofs.BackLemmas.{gone_moment, gone_on, gone_still}
use Rattle.bn_view.proofs.viewer.go_back.Goals as goal

pub returns-in-Some-clause-shown : goal.returns-in-Some-clause-shown
returns-in-Some-clause-shown c =
    gone_moment c.args.board.now c.steps.board c.args.initial c.in-Some.state c.steps.invariant
    c.moment.ensures.kept c.in-Some.ensures.moment

pub returns-then-not-back_step-clause-shown : goal.returns-then-not-back_step-clause-shown
returns-then-not-back_step-clause-shown c =
    gone_still c.args.board.now c.steps.board c.back_step.new.self c.args.initial c.back_step.result c.steps.invariant
    c.moment.ensures.kept
    (sym c.in_default.is ∙ c.moment.ensures.moment) c.if-not-back_step.true c.back_step.ensures.first
    c.back_step.ensures.kept

pub steps-preserved : goal.steps-preserved
steps-preserved c =
    gone_on c.args.board.now c.steps.board c.back_step.new.self c.back_step.result c.steps.invariant
    c.moment.ensures.kept
    (sym c.in_default.is ∙ c.moment.ensures.moment) c.if-not-back_step.false c.back_step.ensures.same
    c.back_step.ensures.made
