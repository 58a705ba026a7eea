use Rattle.std.proofs.Common.{◌≡◌}
use Rattle.bn_boards.specs.Boards.{base}
use Rattle.bn_board.specs.BoardWires.{module_circuit}
use Rattle.bn_board.proofs.WireLemmas.{AreBasesUpTo}
use Rattle.bn_board.proofs.wiring.bases.Given as goal

abbrev pub invariant-loop-number : goal.invariant-loop-number
invariant-loop-number l = record {
  next_is : l.next ≡ base (module_circuit l.net).tables l.number;
  so_far : AreBasesUpTo (module_circuit l.net).tables l.number l.bases.items;
}
