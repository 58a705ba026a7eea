use Rattle.std.proofs.Common.{arith}
use Rattle.bn_erase.proofs.erasing.join.Goals as goal

pub join_translated-requires-clause-states : goal.join_translated-requires-clause-states
join_translated-requires-clause-states c =
    omega (
      arith,
      c.in_ok-translated.ensures.states,
      c.in_ok-other.ensures.states,
      c.requires.first.states,
      c.requires.first.quints,
      c.requires.second.states,
      c.requires.second.quints,
    )
