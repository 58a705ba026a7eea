-- The first names of the list.
use Rattle.std.proofs.Common.{◌≡◌, take}
use Rattle.bn_qtable.specs.Named.{on_tape}
use Rattle.bn_qtable.proofs.lists.gather_symbols.Given as goal

abbrev pub invariant-symbols : goal.invariant-symbols
invariant-symbols l = l.names ≡ on_tape l.initial.names l.tape (take l.number l.list)
