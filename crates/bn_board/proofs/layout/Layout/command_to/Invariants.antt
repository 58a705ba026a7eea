use Rattle.std.proofs.Common.{◌≡◌, ℕ, ◌≤◌, ◌+◌, ◌-◌, ◌*◌}
use Rattle.bn_network.specs.Controls.{lines_before}
use Rattle.bn_boards.specs.Layouts.{first_element}
use Rattle.bn_board.proofs.MomentLemmas.{IsCommandOf}
use Rattle.bn_board.proofs.layout.Layout.command_to.Given as goal

abbrev pub invariant-loop-tape : goal.invariant-loop-tape
invariant-loop-tape l = record {
  first : l.first ≡ first_element l.self l.tape;
  before : l.before ≡ lines_before l.self.symbols (l.tape - 1);
  few : l.before ≤ 1 + 4004 * (l.tape - 1);
  later : (o : ℕ) → (by : IsCommandOf l.self l.element o) → l.tape ≤ by.tape;
}
