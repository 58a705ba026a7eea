use Rattle.bn_boards.specs.Boards.{size}
use Rattle.bn_board.specs.BoardWires.{IsDrawn, IsWireBefore, module_circuit}
use Rattle.bn_board.proofs.wiring.draw_leaving.Given as goal

abbrev pub invariant-loop-line : goal.invariant-loop-line
invariant-loop-line l = record {
  drawn : IsDrawn (IsWireBefore (module_circuit l.net) l.fn.number l.line) (size (module_circuit l.net).tables) l.draft;
}
