use Rattle.std.proofs.Common.{◌∙◌, arith, refl, sym}
use Rattle.bn_reply_circuits.proofs.BankLemmas.{output_fits}
use Rattle.bn_reply_circuits.proofs.realise.exit_line.Goals as goal

pub overflow_add-result : goal.overflow_add-result
overflow_add-result c =
    let h = output_fits c.args.rsm.now c.args.state c.args.line c.states.result c.lines_in-rows.result c.in-Some.out
    (c.in-Some.field-0-0, c.in-Some.out) c.requires.state c.requires.line c.requires.few
    (sym c.go.ensures ∙ c.in-Some.is) c.states.ensures c.lines_in-rows.ensures refl in
    omega (arith, h)
