use Rattle.std.proofs.Common.{◌≡◌, take}
use Rattle.bn_rlem.specs.Elements.{moves_from}
use Rattle.bn_rlem.proofs.element.moves_of.Given as goal

abbrev pub invariant-loop-pair : goal.invariant-loop-pair
invariant-loop-pair l = l.moves.items ≡ moves_from l.lines 0 (take l.pair l.pairs)
