use Rattle.std.proofs.Common.{subst, ◌∙◌}
use Rattle.std.proofs.lemmas.Result.{IfOk-weaker}
use Rattle.bn_quad.specs.Quadruples.{Quadruples, initial_of}
use Rattle.bn_qtable.specs.Rows.{table_of}
use Rattle.bn_view.specs.Viewed.{IsBoardView}
use Rattle.bn_reply_looks.specs.LookText.{look_text}
use Rattle.bn_reply_looks.proofs.BuiltLemmas.{text_shows}
use Rattle.bn_reply_looks.proofs.look_text.build_text.Goals as goal

pub returns-clause-shows : goal.returns-clause-shows
returns-clause-shows c =
    let b = c.args.board.now in
    let names = c.args.names.now in
    let v = c.in_ok-layers.layers in
    IfOk-weaker c.look_text.result _ _ (λ text written f start of.
    text_shows c.args.machine.now f start b of c.view_board.ensures.kept names v
    (subst (λ (q : Quadruples). IsBoardView b (initial_of q.rules) v) c.machine.ensures.value
    c.in_ok-layers.ensures.view)
    c.in_ok-exit.exit.items c.in_ok-exit.ensures text.items
    (written ∙ (λ i. look_text (table_of (c.machine-2.ensures.value i) names) (c.as_slice.ensures.value i) v)))
    c.look_text.ensures
