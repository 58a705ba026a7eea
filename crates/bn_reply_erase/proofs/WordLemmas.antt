-- The word on a tape from cell 1 on, letter by letter.
use Rattle.std.specs.Prelude.{ℕ, ℤ, List}
use Rattle.bn_machine.specs.Window.{Windowed, with_tape}
use Rattle.bn_erase_laws.specs.Outcome.{rewound}
use Rattle.bn_reply_machines.proofs.OutputLemmas.{HasRead}

-- the window with its head at 0
abbrev pub from_start : Windowed → Windowed
from_start w = with_tape w (rewound w.tape)

-- The letters y stand from cell 1 on, and the position is the one behind them.
pub record HasLetters (w : Windowed) (position : ℤ) (y : List ℕ) : Type 0 where
  pub read : HasRead (from_start w) position y
