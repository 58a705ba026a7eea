use Rattle.std.proofs.Common.{◌≡◌, ◌≤◌, ◌++◌, ◌∙◌, ℕ, List, length, length-drop, take, drop, arith, sym, ap}
use Rattle.std.proofs.lemmas.List.{length-take-le, take-append-drop}
use Rattle.std.proofs.lemmas.Result.{err_from_is_err_and}
use Rattle.bn_io.proofs.GivingLemmas.{front_of_piece}
use Rattle.bn_io.proofs.giving.give_piece.Goals as goal

pub slice_bounds-piece-end : goal.slice_bounds-piece-end
slice_bounds-piece-end g c =
    let full : 4096 ≤ length c.as_slice.result.now = omega (arith, c.as_slice.ensures.len) in
    sym (length-take-le 4096 c.as_slice.result.now full)

pub returns-in_err-write_all-clause-front : goal.returns-in_err-write_all-clause-front
returns-in_err-write_all-clause-front g c =
    let p = err_from_is_err_and c.from_residual.result c.from_residual.ensures.1 in
    let xs = c.as_slice.result.now in
    rw p.1 (front_of_piece _ _ c.args.text.now.items (take 4096 xs) (drop 4096 xs)
    (sym (take-append-drop 4096 xs ∙ c.as_slice.ensures.value)) c.in_err-write_all.ensures.front)

pub returns-clause-given : goal.returns-clause-given
returns-clause-given g c =
    let xs = c.as_slice.result.now in
    let behind : drop 4096 xs ≡ c.drop_piece.new.text.items = ap (λ (z : List ℕ). drop 4096 z) c.as_slice.ensures.value
    ∙ sym c.drop_piece.ensures in (
      take 4096 xs,
      sym (take-append-drop 4096 xs ∙ c.as_slice.ensures.value) ∙ ap (λ (z : List ℕ). take 4096 xs ++ z) behind,
      c.in_ok-write_all.ensures.whole,
    )

pub returns-clause-shorter : goal.returns-clause-shorter
returns-clause-shorter g c =
    let behind = ap length c.drop_piece.ensures in
    let old = c.args.text.now.ok.0 in
    let new = c.drop_piece.new.text.ok.0 in
    let full : 4096 ≤ length c.args.text.now.items = omega (arith, c.requires, old) in
    omega (arith, length-drop 4096 c.args.text.now.items)
