use Rattle.std.proofs.Common.{◌≡◌, length, take}
use Rattle.bn_quad.specs.Quadruples.{Quadruples}
use Rattle.bn_control.specs.Numbered.{AreNumbered}
use Rattle.bn_control.proofs.numbered.in_numbers.Given as goal

abbrev pub invariant-loop-step : goal.invariant-loop-step
invariant-loop-step l = record {
  numbers : (m : Quadruples) → m.symbols ≡ l.symbols → AreNumbered m l.states (take l.step-index l.moves)
      l.numbered.items;
  few : length l.numbered.items ≡ l.step-index;
}
