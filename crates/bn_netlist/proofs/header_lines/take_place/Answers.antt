use Rattle.std.proofs.Common.{sym}
use Rattle.bn_netlist.proofs.HeaderLineLemmas.{enter_takes, enter_absent}
use Rattle.bn_netlist.proofs.header_lines.take_place.Goals as goal

pub returns-in_default-clause-refused : goal.returns-in_default-clause-refused
returns-in_default-clause-refused c = enter_absent c.args.version c.args.line.now c.args.count c.args.start c.args.end
    c.args.steps c.in-Some.input (sym c.in-Some.ensures) c.in_default.ensures

pub returns-in-Some-existing-clause-read : goal.returns-in-Some-existing-clause-read
returns-in-Some-existing-clause-read c = enter_takes c.args.version c.args.line.now c.args.count c.args.start c.args.end
    c.args.steps c.in-Some.input c.in-Some-existing.field-0 (sym c.in-Some.ensures) c.in-Some-existing.ensures.0
    c.in-Some-existing.ensures.1
