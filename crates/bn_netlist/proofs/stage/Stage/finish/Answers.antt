use Rattle.bn_netlist.proofs.StageLemmas.{header_missing}
use Rattle.bn_netlist.proofs.stage.Stage.finish.Goals as goal

pub returns-in_default-clause-refused : goal.returns-in_default-clause-refused
returns-in_default-clause-refused g c = λ lines taken. header_missing c.args.self c.next_line-line.result lines
    c.in_default.not-Entries c.next_line-line.ensures taken
