use Rattle.std.proofs.Common.{sym}
use Rattle.bn_netlist.proofs.HeaderLineLemmas.{steps_takes, steps_unsaid}
use Rattle.bn_netlist.proofs.header_lines.take_steps.Goals as goal

pub returns-in_default-clause-refused : goal.returns-in_default-clause-refused
returns-in_default-clause-refused c = steps_unsaid c.args.version c.args.line.now c.args.count c.args.start c.args.end
    (sym c.in_default.ensures)

pub returns-clause-read : goal.returns-clause-read
returns-clause-read c = steps_takes c.args.version c.args.line.now c.args.count c.in-Some.steps c.args.start c.args.end
    (sym c.in-Some.ensures)
