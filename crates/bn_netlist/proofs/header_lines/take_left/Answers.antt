use Rattle.std.proofs.Common.{sym}
use Rattle.bn_netlist.proofs.HeaderLineLemmas.{left_takes, left_absent, left_unsaid}
use Rattle.bn_netlist.proofs.header_lines.take_left.Goals as goal

pub returns-in_default-clause-refused : goal.returns-in_default-clause-refused
returns-in_default-clause-refused c = left_unsaid c.args.version c.args.line.now c.args.count c.args.start c.args.end
    c.args.steps c.requires (sym c.in_default.ensures)

pub returns-in_default-existing-clause-refused : goal.returns-in_default-existing-clause-refused
returns-in_default-existing-clause-refused c = left_absent c.args.version c.args.line.now c.args.count c.args.start
    c.args.end c.args.steps c.in-Some.output c.requires (sym c.in-Some.ensures) c.in_default-existing.ensures

pub returns-clause-read : goal.returns-clause-read
returns-clause-read c = left_takes c.args.version c.args.line.now c.args.count c.args.start c.args.end c.args.steps
    c.in-Some.output c.in-Some-existing.field-0 c.requires (sym c.in-Some.ensures) c.in-Some-existing.ensures.0
    c.in-Some-existing.ensures.1
