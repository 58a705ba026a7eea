use Rattle.std.proofs.Common.{◌≡◌}
use Rattle.bn_boards.specs.Layouts.{first_element}
use Rattle.bn_board.proofs.layout.Layout.first_element.Given as goal

abbrev pub invariant-loop-before : goal.invariant-loop-before
invariant-loop-before l = record { counted : l.first ≡ first_element l.self l.before }
