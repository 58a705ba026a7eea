-- The laws of this crate, a named field each. `Laws` is the contract of `network_definition_laws`.
use Rattle.bn_network.specs.ControlLaws.{TapesAreSame, OverlapsAreOne, ControlsAreOneToOne, StatesHaveEntries}
use Rattle.bn_network.specs.ControlLaws.{ControlsAreOne}
use Rattle.bn_network.specs.declared.limits.TheConstants.{MOST_SYMBOLS}
use Rattle.std.specs.Prelude.{◌≡◌}

pub record Laws : Type 0 where
  -- Quadruples that leave one state read the same tapes, and those that lead to one state write the same tapes.
  pub tapes_are_same : TapesAreSame
  -- In a deterministic machine, quadruples that overlap in domain are equal; in a reversible machine, quadruples that
  -- overlap in range are equal.
  pub overlaps_are_one : OverlapsAreOne
  -- The moves of a uniform machine's control are one-to-one.
  pub controls_are_one_to_one : ControlsAreOneToOne
  -- Each state of a uniform machine has exactly one first command, and no two states share the control's state that
  -- waits for its reply.
  pub states_have_entries : StatesHaveEntries
  -- The control of a machine has exactly one order of its states, and the control of a uniform machine has exactly
  -- one table.
  pub controls_are_one : ControlsAreOne
  -- The most symbols are 4,001: the blank, and one for each quintuple of the longest table.
  pub most_symbols_are_stated : MOST_SYMBOLS ≡ 4001
