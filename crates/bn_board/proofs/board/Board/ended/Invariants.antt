use Rattle.std.proofs.Common.{◌≡◌, ℕ, ◌<◌, Option, Some, false}
use Rattle.std.specs.List.{slice_get}
use Rattle.bn_boards.specs.Layouts.{is_sent}
use Rattle.bn_board.proofs.board.Board.ended.Given as goal

abbrev pub invariant-loop-state : goal.invariant-loop-state
invariant-loop-state l = (k : ℕ) (f : Option (ℕ × ℕ)) → k < l.state → slice_get l.self.layout.firsts k ≡ Some f
    → is_sent l.self.layout l.self.config f ≡
    false
