use Rattle.std.proofs.lemmas.Result.{IfOk-weaker}
use Rattle.bn_reply_views.proofs.ViewTextLemmas.{can_be_written}
use Rattle.bn_reply_views.proofs.view.layers_text.Goals as goal

pub view_text-requires-clause-layers : goal.view_text-requires-clause-layers
view_text-requires-clause-layers c =
    can_be_written c.args.table.now c.args.translated.now c.args.board.now c.requires c.view.ensures.kept
    c.in_ok-layers.layers c.in_ok-layers.ensures.place
    c.in_ok-layers.ensures.known c.in_ok-layers.ensures.view c.in_ok-layers.ensures.machine

pub returns-clause-shown : goal.returns-clause-shown
returns-clause-shown c =
    IfOk-weaker c.view_text.result _ _ (λ text h word l f is.
    (c.in_ok-layers.layers, c.in_ok-layers.ensures.view c.args.table.now.machine word l f is, h f is.translation))
    c.view_text.ensures
