use Rattle.std.proofs.Common.{◌≡◌, ◌+◌, take, length, get_or, None, sym, ap, arith}
use Rattle.std.proofs.lemmas.Option.{slice_get-get_or}
use Rattle.std.proofs.lemmas.List.{length-take-le}
use Rattle.std.proofs.lemmas.Result.{err_from_is_err_and}
use Rattle.bn_rsm.specs.Faults.{move_fault_of}
use Rattle.bn_rsm.proofs.SoundLemmas.{one_more_indexed, checked-Ok, refused_at, no_move}
use Rattle.bn_rsm.proofs.index.Index.try_new.Goals as goal

pub returns-in_err-check-clause-refused : goal.returns-in_err-check-clause-refused
returns-in_err-check-clause-refused c =
    let p = err_from_is_err_and c.from_residual.result c.from_residual.ensures.1 in
    let stands = slice_get-get_or c.args.moves.now c.loop-n.n no_move c.loop-n-test.true in
    rw (p.1, p.2) (refused_at c.args.states c.args.lines c.args.moves.now c.loop-n.n
    (get_or c.args.moves.now c.loop-n.n no_move) c.loop-n.invariant.sound stands c.in_err-check.field-0.0
    (sym (c.in_err-check.ensures (take c.loop-n.n c.args.moves.now) c.loop-n.invariant.numbers)))

pub loop-n-preserved : goal.loop-n-preserved
loop-n-preserved c =
    let moves = c.args.moves.now in
    let earlier = take c.loop-n.n moves in
    let m = get_or moves c.loop-n.n no_move in
    let stands = slice_get-get_or moves c.loop-n.n no_move c.loop-n-test.true in
    let none : move_fault_of c.args.states c.args.lines earlier m ≡ None =
    checked-Ok (move_fault_of c.args.states c.args.lines earlier m) (c.loop-n.n + 1) c.in_ok-check.field-0
    (sym (c.in_ok-check.ensures earlier c.loop-n.invariant.numbers)) in
    let counted : c.loop-n.n + 1 ≡ length earlier + 1 = ap (λ x. x + 1)
    (sym (length-take-le c.loop-n.n moves (omega arith))) in
    one_more_indexed c.args.states c.args.lines c.loop-n.index.from c.loop-n.index.to c.add.new.self.from
    c.add.new.self.to moves c.loop-n.n m c.loop-n.invariant stands none
    (c.in_ok-add.ensures c.args.states c.args.lines earlier c.loop-n.invariant.numbers counted none)
