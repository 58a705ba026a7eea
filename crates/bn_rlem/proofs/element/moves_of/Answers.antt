-- One move more.
use Rattle.std.proofs.Common.{◌≡◌, ◌∙◌, ◌+◌, ◌++◌, ◌∷◌, [], ℕ, List, length, take, get_or, arith, sym, ap}
use Rattle.bn_rsm.specs.declared.rsm_move.RsmMove.{RsmMove}
use Rattle.bn_rlem.specs.Elements.{moves_from}
use Rattle.bn_rlem.proofs.ElementLemmas.{moves-taken}
use Rattle.bn_rlem.proofs.element.moves_of.Goals as goal

pub loop-pair-preserved : goal.loop-pair-preserved
loop-pair-preserved c =
    c.in_ok-add.ensures ∙ ap (λ ms. ms ++ c.move_between.result ∷ []) c.loop-pair.invariant
    ∙ moves-taken c.args.lines c.args.pairs.now c.loop-pair.pair c.move_between.result c.loop-pair-test.true
    c.move_between.ensures
