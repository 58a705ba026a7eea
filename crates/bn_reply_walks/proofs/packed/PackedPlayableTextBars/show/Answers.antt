use Rattle.std.proofs.Common.{refl, sym, ◌∙◌, []}
use Rattle.std.proofs.lemmas.List.{append-nil}
use Rattle.std.proofs.lemmas.Result.{on_err_weaker}
use Rattle.bn_session.specs.Boards.{GrowsByFront}
use Rattle.bn_reply_walks.specs.WalkView.{walk_view}
use Rattle.bn_reply_walks.proofs.packed.PackedPlayableTextBars.show.Goals as goal

pub returns-clause-cut : goal.returns-clause-cut
returns-clause-cut c =
    on_err_weaker c.push.result (λ kept. record {
      front = [];
      rest = walk_view c.args.writer.now.states c.args.self.now.config;
      is = refl;
      written = kept ∙ sym (append-nil c.args.out.now.items);
    }) c.push.ensures.refused
