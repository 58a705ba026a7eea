-- The first names of the list.
use Rattle.std.proofs.Common.{◌≡◌, take}
use Rattle.bn_quad.specs.Names.{naming_of}
use Rattle.bn_qtable.proofs.lists.gather_states.Given as goal

abbrev pub invariant-states : goal.invariant-states
invariant-states l = l.names ≡ naming_of (take l.number l.list) l.initial.names.one l.initial.names.two
    l.initial.names.three
