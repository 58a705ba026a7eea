use Rattle.std.proofs.Common.{◌≡◌, ℕ, ◌<◌, false}
use Rattle.bn_realise.specs.Banks.{bottom_at}
use Rattle.bn_boards.specs.Layouts.{is_marked_at}
use Rattle.bn_board.proofs.board.Board.marked_column.Given as goal

abbrev pub invariant-loop-column : goal.invariant-loop-column
invariant-loop-column l = (j : ℕ) → j < l.column → is_marked_at l.self.config.states (bottom_at l.first l.rows j)
    ≡ false
