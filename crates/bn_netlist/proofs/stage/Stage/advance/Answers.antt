use Rattle.std.proofs.lemmas.Result.{IfErr-weaker}
use Rattle.bn_netlist.proofs.StageLemmas.{same_stage}
use Rattle.bn_netlist.proofs.stage.Stage.advance.Goals as goal

pub returns-in-Entries-clause-refused : goal.returns-in-Entries-clause-refused
returns-in-Entries-clause-refused c =
    IfErr-weaker c.take_entry.result _ _ (λ r refused lines taken. refused lines
    (same_stage c.args.self.now _ lines c.in-Entries.is taken)) c.take_entry.ensures.refused
