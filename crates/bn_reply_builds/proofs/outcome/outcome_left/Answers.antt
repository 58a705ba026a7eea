use Rattle.std.proofs.Common.{◌∙◌, ap, sym}
use Rattle.std.proofs.lemmas.Result.{IfOk-weaker}
use Rattle.bn_reply_builds.specs.Outcomes.{outcome_by}
use Rattle.bn_reply_builds.proofs.OutcomeLemmas.{at_end, at_stop, at_window}
use Rattle.bn_reply_builds.proofs.outcome.outcome_left.Goals as goal

pub returns-in-End-clause-left : goal.returns-in-End-clause-left
returns-in-End-clause-left c = λ f p states line d e is machine place called spells fits leaves. at_end f is p states
    d e c.args.exit called c.in-End.is leaves

pub returns-in-Window-clause-left : goal.returns-in-Window-clause-left
returns-in-Window-clause-left c = λ f p states line d e is machine place called spells fits leaves.
    at_window f is p states d e c.args.exit called c.in-Window.tape c.in-Window.side c.in-Window.is leaves

pub returns-in_default-clause-left : goal.returns-in_default-clause-left
returns-in_default-clause-left c =
    IfOk-weaker c.stuck_by.result _ _ (λ o told f p states line d e is machine place called spells fits leaves.
    let found = at_stop f is p states d e c.args.exit called c.args.element line place c.args.shown.now spells fits
    c.in_default.not-End c.in_default.not-Window
    leaves in
    told f d is machine found.1 ∙ ap (outcome_by d) (sym found.0)) c.stuck_by.ensures.stuck
