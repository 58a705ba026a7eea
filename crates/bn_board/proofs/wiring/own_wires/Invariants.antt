use Rattle.bn_boards.specs.Boards.{size}
use Rattle.bn_board.specs.BoardWires.{IsDrawn, IsOwnWire, module_circuit}
use Rattle.bn_board.proofs.wiring.own_wires.Given as goal

abbrev pub invariant-loop-number : goal.invariant-loop-number
invariant-loop-number l = record {
  drawn : IsDrawn (IsOwnWire (module_circuit l.net) l.number) (size (module_circuit l.net).tables) l.draft;
}
