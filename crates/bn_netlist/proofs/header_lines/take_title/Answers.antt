use Rattle.bn_netlist.proofs.HeaderLineLemmas.{title_takes, title_unsaid, unmapped, mapped}
use Rattle.bn_netlist.proofs.header_lines.take_title.Goals as goal

pub returns-in_default-clause-refused : goal.returns-in_default-clause-refused
returns-in_default-clause-refused c = title_unsaid c.args.line.now
    (unmapped c.args.line.now c.version_of.result c.version_of.ensures c.in_default.is)

pub returns-clause-read : goal.returns-clause-read
returns-clause-read c = title_takes c.args.line.now c.in-Some.version
    (mapped c.args.line.now c.version_of.result c.in-Some.version c.version_of.ensures c.in-Some.is)
