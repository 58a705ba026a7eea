use Rattle.std.proofs.Common.{rules}
use Rattle.bn_control.proofs.StuckLemmas.{none_answered, no_move}
use Rattle.bn_control.proofs.finite.Control.stuck_of.Goals as goal

pub returns-in_default-answered : goal.returns-in_default-answered
returns-in_default-answered c = none_answered c.args.self.now c.args.state c.args.line c.in-Some.from c.in-Some.tape
    c.in-Some.ensures.kept c.in_default-answered.ensures

pub returns : goal.returns
returns c = no_move c.args.self.now c.args.state c.args.line c.in-Some.from c.in-Some.tape c.in-Some.ensures.kept
    c.in-Some-answered.symbol c.in-Some-answered.ensures (search rules)
