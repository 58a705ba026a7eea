use Rattle.std.proofs.Common.{ℕ, List, [], ◌++◌, ◌∙◌, sym, ap, append_assoc, refl}
use Rattle.std.proofs.lemmas.Result.{err_from_is_err_and}
use Rattle.bn_io.proofs.ToldLemmas.{Grows-joins}
use Rattle.bn_io.proofs.GivingLemmas.{grows_none}
use Rattle.bn_io.proofs.giving.give_pieces.Goals as goal

pub loop-sink-init : goal.loop-sink-init
loop-sink-init g c = ([], refl, grows_none (g.K.Sink.taken c.args.sink.now), refl)

pub loop-sink-preserved : goal.loop-sink-preserved
loop-sink-preserved g c =
    let i = c.loop-sink.invariant in
    let t = c.in_ok-give_piece.ensures.given in (
      i.0 ++ t.0,
      i.1 ∙ ap (λ (z : List ℕ). i.0 ++ z) t.1 ∙ sym (append_assoc i.0 t.0 c.give_piece.new.text.items),
      Grows-joins _ _ _ _ _ i.2 t.2,
      c.in_ok-give_piece.ensures.kept ∙ i.3,
    )

pub returns-in_err-give_piece-clause-front : goal.returns-in_err-give_piece-clause-front
returns-in_err-give_piece-clause-front g c =
    let i = c.loop-sink.invariant in
    let f = c.in_err-give_piece.ensures.front in
    let p = err_from_is_err_and c.from_residual.result c.from_residual.ensures.1 in
    rw p.1 (
      i.0 ++ f.0,
      f.1,
      i.1 ∙ ap (λ (z : List ℕ). i.0 ++ z) f.2 ∙ sym (append_assoc i.0 f.0 f.1),
      Grows-joins _ _ _ _ _ i.2 f.3,
    )
