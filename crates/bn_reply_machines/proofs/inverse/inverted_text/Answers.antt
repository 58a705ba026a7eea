use Rattle.std.proofs.Common.{sym, subst, ap, ◌∙◌}
use Rattle.std.proofs.lemmas.Result.{IfOk-weaker}
use Rattle.bn_csv.specs.Lines.{lines_of}
use Rattle.bn_qtable.specs.Named.{HasNames}
use Rattle.bn_qtable.specs.Rows.{quadruple_rows_by}
use Rattle.bn_reply_machines.proofs.InverseLemmas.{inverse_names}
use Rattle.bn_reply_machines.proofs.inverse.inverted_text.Goals as goal

pub write_quads-requires : goal.write_quads-requires
write_quads-requires c =
    subst (λ m. HasNames m c.args.names.now) (sym c.in_ok-inverse.ensures.turned)
    (inverse_names c.args.machine.now c.args.names.now c.requires)

pub returns : goal.returns
returns c =
    let same = ap (λ m. lines_of (quadruple_rows_by c.args.names.now m.rules)) c.in_ok-inverse.ensures.turned in
    IfOk-weaker c.write_quads.result _ _ (λ text written. written ∙ same) c.write_quads.ensures.text
