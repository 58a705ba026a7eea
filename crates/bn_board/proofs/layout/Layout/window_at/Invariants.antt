use Rattle.std.proofs.Common.{ℕ, ◌<◌}
use Rattle.bn_circuits.specs.declared.place.Place.TheVariants.{Left}
use Rattle.bn_boards.specs.Layouts.{IsNamedExit}
use Rattle.bn_boards.specs.declared.exit.Exit.TheVariants.{Window}
use Rattle.bn_machine.specs.declared.quint.Side.{Side}
use Rattle.bn_board.proofs.layout.Layout.window_at.Given as goal

abbrev pub invariant-loop-tape : goal.invariant-loop-tape
invariant-loop-tape l = (t : ℕ) → t < l.tape → (s : Side) → IsNamedExit l.self (Left l.left.element l.left.line)
    (Window t s) → ⊥
