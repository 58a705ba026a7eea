use Rattle.std.proofs.Common.{sym}
use Rattle.std.proofs.lemmas.Result.{err_from_is_err_and}
use Rattle.bn_netlist.proofs.StageLemmas.{same_stage}
use Rattle.bn_netlist.proofs.stage.Stage.advance_header.Goals as goal

pub returns-in_err-self-clause-refused : goal.returns-in_err-self-clause-refused
returns-in_err-self-clause-refused c =
    let p = err_from_is_err_and c.from_residual.result c.from_residual.ensures.1 in
    rw (p.1, p.2) (λ lines taken. c.in_err-self.ensures.refused lines
    (same_stage c.args.self.now _ lines (sym c.replace-stage.ensures.value) taken))
