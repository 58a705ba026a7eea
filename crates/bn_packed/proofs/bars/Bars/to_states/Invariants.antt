use Rattle.std.proofs.Common.{◌≡◌, take}
use Rattle.bn_packed.proofs.bars.Bars.to_states.Given as goal

abbrev pub invariant-loop-element : goal.invariant-loop-element
invariant-loop-element l = l.states.items ≡ take l.element l.self
