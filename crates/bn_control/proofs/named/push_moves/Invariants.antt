use Rattle.std.proofs.Common.{◌≡◌, ◌++◌, drop}
use Rattle.bn_control.specs.Commands.{moves_by}
use Rattle.bn_control.proofs.named.push_moves.Given as goal

abbrev pub invariant-loop-index : goal.invariant-loop-index
invariant-loop-index l = l.moves.items ++ moves_by l.last (drop l.index l.commands)
    ≡ l.initial.moves.items ++ moves_by l.last l.commands
