use Rattle.bn_boards.specs.Boards.{size}
use Rattle.bn_board.specs.BoardWires.{IsDrawn, IsWireBefore, module_circuit}
use Rattle.bn_board.proofs.wiring.board_draft.Given as goal

abbrev pub invariant-loop-number : goal.invariant-loop-number
invariant-loop-number l = record {
  drawn : IsDrawn (IsWireBefore (module_circuit l.net) l.number 0) (size (module_circuit l.net).tables) l.draft;
}
