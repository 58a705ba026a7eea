use Rattle.std.proofs.Common.{rules, ◌++◌}
use Rattle.std.proofs.lemmas.Result.{err_from_is_err_and}
use Rattle.bn_io.proofs.Pieces.{reads-behind}
use Rattle.bn_io.proofs.reading.read_onto.Goals as goal

pub returns-in_err-read_piece-clause-taken : goal.returns-in_err-read_piece-clause-taken
returns-in_err-read_piece-clause-taken g c =
    let p = err_from_is_err_and c.from_residual.result c.from_residual.ensures.1 in
    let t = c.in_err-read_piece.ensures.taken in
    rw (p.1, p.2) (
      c.loop.bytes.items ++ t.0,
      reads-behind _ _ _ _ _ _ _ _ _ c.loop.invariant.1 (search rules) c.loop.invariant.0 (λ e. cc) (λ e. cc) t.1,
    )
