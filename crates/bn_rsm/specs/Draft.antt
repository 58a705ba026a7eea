-- Moves collected from entries.
use Rattle.std.specs.Prelude.{◌≡◌, All}
use Rattle.bn_rsm.specs.Entry.{IsMove, states_named, lines_named}
use Rattle.bn_rsm.specs.declared.draft.Draft.{Draft}

-- the moves of the draft may be entries of a table, and its counts are those of the states and ports that they name
pub record IsDraft (d : Draft) : Type 0 where
  pub within : All IsMove d.moves.items
  pub states : d.states ≡ states_named d.moves.items
  pub lines : d.lines ≡ lines_named d.moves.items
