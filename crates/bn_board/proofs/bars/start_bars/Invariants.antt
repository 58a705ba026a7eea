use Rattle.std.proofs.Common.{◌≡◌, length, take}
use Rattle.bn_boards.specs.Boards.{bars_of, base}
use Rattle.bn_board.specs.BoardWires.{module_circuit}
use Rattle.bn_board.proofs.bars.start_bars.Given as goal

abbrev pub invariant-loop-number : goal.invariant-loop-number
invariant-loop-number l = record {
  so_far : l.bars.items ≡ bars_of (take l.number (module_circuit l.net).tables) (take l.number l.states);
  count : length l.bars.items ≡ base (module_circuit l.net).tables l.number;
}
