use Rattle.std.proofs.Common.{◌≡◌, ◌≤◌, ◌+◌, ◌*◌}
use Rattle.bn_network.specs.Controls.{lines_before}
use Rattle.bn_board.proofs.layout.Layout.lines_before.Given as goal

abbrev pub invariant-loop-index : goal.invariant-loop-index
invariant-loop-index l = record {
  counted : l.lines ≡ lines_before l.self.symbols l.index;
  few : l.lines ≤ 1 + 4004 * l.index;
}
