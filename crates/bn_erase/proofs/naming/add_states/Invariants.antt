use Rattle.std.proofs.Common.{◌≡◌, map, take}
use Rattle.bn_bennett.specs.Printed.{with_states}
use Rattle.bn_erase.specs.Printed.{erasing_text}
use Rattle.bn_erase.proofs.naming.add_states.Given as goal

abbrev pub invariant-loop-name : goal.invariant-loop-name
invariant-loop-name l = l.names ≡ with_states (map erasing_text (take l.name-index l.states))
