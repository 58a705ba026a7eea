use Rattle.std.proofs.Common.{ℕ, List, ◌++◌, ◌≤◌, ◌∙◌, length, arith, length-append, sym, ap, subst}
use Rattle.std.proofs.lemmas.Result.{err_from_is_err_and}
use Rattle.std.proofs.lemmas.List.{length-take-le}
use Rattle.bn_netlist.specs.Coming.{HaveCome}
use Rattle.bn_io.proofs.Pieces.{reads-behind}
use Rattle.bn_io.proofs.ToldLemmas.{Loses-joins}
use Rattle.bn_netlist.proofs.read_from.read_pieces.Goals as goal

pub returns-in_err-count-clause-taken : goal.returns-in_err-count-clause-taken
returns-in_err-count-clause-taken g c =
    let p = err_from_is_err_and c.from_residual.result c.from_residual.ensures.1 in
    let t = c.in_err-count.ensures.taken in
    let i = c.loop-pieces.invariant in
    rw (p.1, p.2) (i.0 ++ t.0, reads-behind _ _ _ _ _ _ _ _ _ i.1 i.2 i.3 (λ e. cc) (λ e. cc) t.1, tt)

pub returns-in_default-clause-taken : goal.returns-in_default-clause-taken
returns-in_default-clause-taken g c =
    let t = c.in_ok-count.ensures.taken in
    let i = c.loop-pieces.invariant in
    (i.0 ++ t.0, reads-behind _ _ _ _ _ _ _ _ _ i.1 i.2 i.3 (λ e. cc) (λ e. cc) t.1, tt)

pub loop-pieces-preserved : goal.loop-pieces-preserved
loop-pieces-preserved g c =
    let t = c.in_ok-count.ensures.taken in
    let i = c.loop-pieces.invariant in
    let come = c.in-Ok.ensures in
    let e = c.in_ok-count.ensures in
    let bound : c.in_ok-count.count ≤ length c.read_piece.new.buffer = omega (arith, e.bound) in
    let size = length-take-le c.in_ok-count.count c.read_piece.new.buffer bound in
    let same = ap length t.2 in (
      i.0 ++ t.0,
      Loses-joins _ _ _ _ _ i.1 t.1.lost,
      omega (arith, length-append i.0 t.0),
      omega (arith, e.within),
      omega arith,
      subst (λ (z : List ℕ). HaveCome c.in-Ok.next (i.0 ++ z)) (sym t.2) (come i.0 i.5),
      e.stays (λ f. cc) ∙ i.6,
      λ is_open. e.goes_on (omega arith) (i.7 is_open),
      λ is_open late. i.8 is_open (e.in_time (i.7 is_open) late),
    )
