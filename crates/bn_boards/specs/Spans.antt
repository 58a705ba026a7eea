-- The contents of a tape that a circuit's cells show, for any bars (own to this project).
use Rattle.std.specs.Prelude.{◌≡◌, ℕ, ◌+◌, ◌<◌, ℤ, pos, ◌-ℤ◌, length, Some, slice_get}
use Rattle.bn_machine.specs.Window.{IsBetween}
use Rattle.bn_boards.specs.declared.spelled.SpelledTape.{SpelledTape}

-- A tape from -left to right: its head, if a cell shows it, is between these ends, and each symbol that a cell shows
-- is below the number of symbols.
pub record Spans (left right symbols : ℕ) (tape : SpelledTape) : Type 0 where
  pub first : tape.first ≡ pos 0 -ℤ pos left
  pub cells : length tape.cells ≡ left + right + 1
  pub head : (p : ℤ) → tape.head ≡ Some p → IsBetween left right p
  pub known : (k s : ℕ) → slice_get tape.cells k ≡ Some (Some s) → s < symbols
