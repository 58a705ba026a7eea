-- The output of a tape in a window, letter by letter.
use Rattle.std.proofs.Common.{◌≡◌, ◌≢◌, ℕ, suc, ◌<◌, List, length}
use Rattle.std.specs.Prelude.{ℤ, pos, ◌+ℤ◌, ◌≤ℤ◌, slice_index}
use Rattle.bn_machine.specs.Tape.{cell}
use Rattle.bn_machine.specs.Window.{Windowed}

-- The letters y stand right of the head of a tape in a window, and the position is the one behind them.
pub record HasRead (w : Windowed) (position : ℤ) (y : List ℕ) : Type 0 where
  pub at : position ≡ w.tape.head +ℤ pos (suc (length y))
  pub inside : (w.tape.head +ℤ pos (length y)) ≤ℤ pos w.right
  pub letters : (k : ℕ) → k < length y → slice_index y k ≢ 0
  pub spelled : (k : ℕ) → k < length y → cell w.tape (w.tape.head +ℤ pos (suc k)) ≡ slice_index y k
