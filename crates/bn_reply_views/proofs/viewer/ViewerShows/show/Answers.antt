use Rattle.std.proofs.Common.{refl}
use Rattle.std.proofs.lemmas.Result.{err_from_is_err_and, on_err_weaker, on_ok_weaker}
use Rattle.bn_reply_views.proofs.ShowingLemmas.{none_shown}
use Rattle.bn_reply_views.proofs.ViewClosedLemmas.{there}
use Rattle.bn_view.proofs.LawLemmas.{shown_is_found as found}
use Rattle.bn_reply_views.proofs.viewer.ViewerShows.show.Goals as goal

pub returns-in_err-text-clause-cut : goal.returns-in_err-text-clause-cut
returns-in_err-text-clause-cut c =
    let none = err_from_is_err_and c.from_residual.result c.from_residual.ensures.1 in
    rw none.1 (none_shown c.args.self.now.table.now c.args.self.now.translated.now c.args.board.now
    c.layers_text.ensures.kept found c.requires there
    c.args.out.now.items c.args.out.now.items refl)

pub returns-clause-shown : goal.returns-clause-shown
returns-clause-shown c =
    on_ok_weaker c.push_bytes.result (λ written. (
      c.in_ok-text.text.items,
      c.in_ok-text.ensures.shown,
      rw (← c.as_slice.ensures.value) written,
    )) c.push_bytes.ensures.ok

pub returns-clause-cut : goal.returns-clause-cut
returns-clause-cut c =
    on_err_weaker c.push_bytes.result (λ same. none_shown c.args.self.now.table.now c.args.self.now.translated.now
    c.args.board.now c.layers_text.ensures.kept found c.requires there
    c.args.out.now.items c.push_bytes.new.text.items same) c.push_bytes.ensures.err
