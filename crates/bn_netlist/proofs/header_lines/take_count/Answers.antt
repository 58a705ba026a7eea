use Rattle.std.proofs.Common.{sym, arith}
use Rattle.bn_netlist.proofs.HeaderLineLemmas.{count_takes, count_unsaid, count_none, count_many}
use Rattle.bn_netlist.proofs.header_lines.take_count.Goals as goal

pub returns-in_default-clause-refused : goal.returns-in_default-clause-refused
returns-in_default-clause-refused c = count_unsaid c.args.version c.args.line.now (sym c.in_default.ensures)

pub returns-then-count-eq0-clause-refused : goal.returns-then-count-eq0-clause-refused
returns-then-count-eq0-clause-refused c = count_none c.args.version c.args.line.now c.in-Some.count
    (sym c.in-Some.ensures) c.if-count-eq0.true

pub returns-then-count-most_elements-clause-refused : goal.returns-then-count-most_elements-clause-refused
returns-then-count-most_elements-clause-refused c = count_many c.args.version c.args.line.now c.in-Some.count
    (sym c.in-Some.ensures) c.if-count-eq0.false (omega (arith, c.if-count-most_elements.true, c.most_elements.ensures))

pub returns-clause-read : goal.returns-clause-read
returns-clause-read c = count_takes c.args.version c.args.line.now c.in-Some.count (sym c.in-Some.ensures)
    c.if-count-eq0.false (omega (arith, c.if-count-most_elements.false, c.most_elements.ensures))
