use Rattle.std.proofs.Common.{◌∙◌}
use Rattle.bn_session.specs.Breakpoints.{first_label}
use Rattle.bn_session.proofs.BreakLemmas.{first-some, same_answer}
use Rattle.bn_session.proofs.breaks.Breaks.some_holds.Goals as goal

pub returns-then-may_hold : goal.returns-then-may_hold
returns-then-may_hold c =
    c.is_some.ensures ∙ same_answer c.first_label.result (first_label c.args.place c.args.moment c.args.self.now)
    c.first_label.ensures ∙ first-some c.args.place c.args.moment c.args.self.now
