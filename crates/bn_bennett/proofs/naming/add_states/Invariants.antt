use Rattle.std.proofs.Common.{◌≡◌, map, take}
use Rattle.bn_bennett.specs.Printed.{bennett_state_text, with_states}
use Rattle.bn_bennett.proofs.naming.add_states.Given as goal

abbrev pub invariant-loop-name : goal.invariant-loop-name
invariant-loop-name l = l.names ≡ with_states (map bennett_state_text (take l.name-index l.states))
