use Rattle.std.proofs.Common.{◌≡◌}
use Rattle.bn_bennett.specs.Printed.{number_names, on_tape}
use Rattle.bn_bennett.proofs.naming.add_history_symbols.Given as goal

abbrev pub invariant-loop-index : goal.invariant-loop-index
invariant-loop-index l = l.names ≡ on_tape l.fn.names 2 (number_names l.index)
