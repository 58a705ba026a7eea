use Rattle.std.proofs.Common.{sym}
use Rattle.bn_netlist.proofs.HeaderLineLemmas.{end_takes, end_unsaid, end_absent}
use Rattle.bn_netlist.proofs.header_lines.take_end.Goals as goal

pub returns-in_default-clause-refused : goal.returns-in_default-clause-refused
returns-in_default-clause-refused c = end_unsaid c.args.version c.args.line.now c.args.count c.args.start
    (sym c.in_default.ensures)

pub returns-in_default-existing-clause-refused : goal.returns-in_default-existing-clause-refused
returns-in_default-existing-clause-refused c = end_absent c.args.version c.args.line.now c.args.count c.args.start
    c.in-Some.end (sym c.in-Some.ensures) c.in_default-existing.ensures

pub returns-clause-read : goal.returns-clause-read
returns-clause-read c = end_takes c.args.version c.args.line.now c.args.count c.args.start c.in-Some.end _
    (sym c.in-Some.ensures) c.in-Some-existing.ensures.0 c.in-Some-existing.ensures.1
