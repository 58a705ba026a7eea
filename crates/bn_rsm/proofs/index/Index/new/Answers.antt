use Rattle.std.proofs.Common.{◌+◌, take, get_or, sym, ap, subst, arith}
use Rattle.std.proofs.lemmas.Option.{slice_get-get_or}
use Rattle.std.proofs.lemmas.List.{length-take-le, take_all}
use Rattle.bn_rsm.specs.Pairs.{AreNumbers}
use Rattle.bn_rsm.proofs.SoundLemmas.{sound-faultless, take_one_more, no_move}
use Rattle.bn_rsm.proofs.index.Index.new.Goals as goal

pub loop-n-preserved : goal.loop-n-preserved
loop-n-preserved c = λ states lines sound.
    let moves = c.args.moves.now in
    let n = c.loop-n.n in
    let stands = slice_get-get_or moves n no_move c.loop-n-test.true in
    let none = sound-faultless states lines moves n (get_or moves n no_move) sound stands in
    let counted = ap (λ x. x + 1) (sym (length-take-le n moves (omega arith))) in
    subst (AreNumbers c.add.new.self.from c.add.new.self.to) (sym
    (take_one_more moves n (get_or moves n no_move) stands))
    (c.in_ok-add.ensures states lines (take n moves) (c.loop-n.invariant states lines sound) counted none)

pub returns : goal.returns
returns c = λ states lines sound. subst (AreNumbers c.loop-n.index.from c.loop-n.index.to)
    (take_all c.loop-n.n c.args.moves.now c.loop-n-test.false) (c.loop-n.invariant states lines sound)
