-- The least window by the extent of the head (this project's own definition). Lemmas prove that it is the least.
use Rattle.std.specs.Prelude.{ℕ, suc, ◌+◌, max, ℤ, pos, ◌+ℤ◌}
use Rattle.bn_machine.specs.Outcome.{Limits}
use Rattle.bn_extents.specs.Extents.{cells_right}

-- The window of a run that halts: from a word of `word` letters, with the extent `left` and `right`, after `steps`
-- steps, with its head at `head` and an output of `letters` letters. The output and the blank after it are copied.
abbrev pub halted_limits : ℕ → ℕ → ℕ → ℕ → ℤ → ℕ → Limits
halted_limits word left right steps head letters = record {
  left = left;
  right = max (max right word) (cells_right (head +ℤ pos (suc letters)));
  steps = steps;
  output = letters + 1;
}

-- likewise for a run that is stuck: nothing is copied
abbrev pub stuck_limits : ℕ → ℕ → ℕ → ℕ → Limits
stuck_limits word left right steps = record { left = left; right = max right word; steps = steps; output = 0 }
