use Rattle.std.proofs.Common.{◌≡◌, ℕ, ◌<◌, false}
use Rattle.bn_boards.specs.Layouts.{has_head, cell_state_at, symbol_count_at}
use Rattle.bn_board.proofs.board.Board.head_cell.Given as goal

abbrev pub invariant-loop-cell : goal.invariant-loop-cell
invariant-loop-cell l = (j : ℕ) → j < l.cell → has_head (symbol_count_at l.self.layout l.tape)
    (cell_state_at l.self.layout l.self.config.states l.tape j) ≡ false
