use Rattle.bn_netlist.proofs.DraftLemmas.{none_left}
use Rattle.bn_netlist.proofs.inner.leave_behind.Goals as goal

pub returns-in-Enter : goal.returns-in-Enter
returns-in-Enter c = none_left c.args.place c.in-Enter.element c.in-Enter.line c.args.wires.now c.in-Enter.is
