-- Machines whose text is read as the same machine.
use Rattle.std.specs.Prelude.{◌≡◌, ◌<◌, ◌≤◌, length}
use Rattle.bn_rsm.specs.Machines.{Machine}
use Rattle.bn_rsm.specs.Entry.{lines_named, states_named}
use Rattle.bn_rsm.specs.declared.entry.TheConstants.{MOST_ENTRIES}
use Rattle.bn_base.specs.declared.limits.TheConstants.{MOST_COUNT}

-- a machine with 1 to `MOST_ENTRIES` moves and exactly as many states and ports as they name, at most `MOST_COUNT` of
-- each
pub record IsTable (m : Machine) : Type 0 where
  pub some : 0 < length m.moves
  pub few : length m.moves ≤ MOST_ENTRIES
  pub states : m.states ≡ states_named m.moves
  pub lines : m.lines ≡ lines_named m.moves
  pub states_few : m.states ≤ MOST_COUNT
  pub lines_few : m.lines ≤ MOST_COUNT
