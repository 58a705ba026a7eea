-- The printed quadruples are those of Bennett's list.
use Rattle.std.proofs.Common.{sym, subst, ap, ◌∙◌}
use Rattle.std.proofs.lemmas.Result.{IfOk-weaker}
use Rattle.bn_csv.specs.Lines.{lines_of}
use Rattle.bn_qtable.specs.Named.{HasNames}
use Rattle.bn_qtable.specs.Rows.{quadruple_rows_by}
use Rattle.bn_bennett.specs.Translation.{IsTranslation}
use Rattle.bn_reply_machines.proofs.BennettLemmas.{translated_text}
use Rattle.bn_reply_machines.proofs.bennett.translated_text.Goals as goal

pub write_quads-requires : goal.write_quads-requires
write_quads-requires c =
    let same = c.machine-2.ensures.value ∙ c.machine.ensures.value in
    subst (λ m. HasNames m c.in_ok-names.names) (sym same) c.in_ok-names.ensures.forms

pub returns : goal.returns
returns c =
    let t = c.args.table.now in
    let s = c.in_ok-translated.translated in
    let same = c.machine-2.ensures.value ∙ c.machine.ensures.value in
    let made : IsTranslation t.machine s =
    subst (λ p. IsTranslation p s) c.requires.same c.in_ok-translated.ensures.made in
    let printed = translated_text t s made in
    let named = ap (λ n. lines_of (quadruple_rows_by n s.machine.rules)) c.in_ok-names.ensures.names in
    let quads = ap (λ m. lines_of (quadruple_rows_by c.in_ok-names.names m.rules)) same in
    IfOk-weaker c.write_quads.result _ _ (λ text written. written ∙ quads ∙ named ∙ printed) c.write_quads.ensures.text
