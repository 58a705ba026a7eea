use Rattle.std.proofs.lemmas.Result.{IfErr-weaker, on_ok_weaker}
use Rattle.bn_netlist.proofs.StageLemmas.{entry_taken, entry_refused}
use Rattle.bn_netlist.proofs.stage.take_entry.Goals as goal

pub returns-clause-refused : goal.returns-clause-refused
returns-clause-refused c =
    IfErr-weaker c.take_line.result _ _ (λ r refused lines taken. entry_refused c.args.header.now c.args.entries.now
    lines taken c.args.line.now r refused) c.take_line.ensures.refused

pub returns-clause-taken : goal.returns-clause-taken
returns-clause-taken c =
    on_ok_weaker c.take_line.result (λ read lines taken. entry_taken c.args.header.now c.args.entries.now lines taken
    c.take_line.new.self c.args.line.now read) c.take_line.ensures.read
