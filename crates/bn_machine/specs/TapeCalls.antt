-- The results of the calls of a tape.
use Rattle.std.specs.Prelude.{◌≡◌, ℕ, ◌<◌, ◌≤◌, List, length, Option, Some, None}
use Rattle.bn_machine.specs.Tape.{shift}
use Rattle.bn_machine.specs.Window.{Windowed, IsInside, Leaves, with_tape}
use Rattle.bn_machine.specs.declared.quint.Shift.{Shift}
use Rattle.bn_machine.specs.declared.quint.Side.{Side}
use Rattle.bn_machine.specs.declared.tape.TapeRefusal.{TapeRefusal}
use Rattle.bn_machine.specs.declared.tape.TapeRefusal.TheVariants.{WordOutside, NoMemory}

-- when a new tape is refused: the word is longer than the right side, and `needs` is its length; `NoMemory` only if the
-- word fits
abbrev pub IsTapeRefusal : ℕ → List ℕ → TapeRefusal → Type 0
IsTapeRefusal right word (WordOutside needs) = (right < length word) × (needs ≡ length word)
IsTapeRefusal right word NoMemory = length word ≤ right

-- The result of a shift in a window, and the tape after it: the head is moved and still inside, or it would leave on
-- this side and nothing has changed.
abbrev pub IsShifted : Windowed → Shift → Option Side → Windowed → Type 0
IsShifted w s None v = IsInside w (shift w.tape s).head × (v ≡ with_tape w (shift w.tape s))
IsShifted w s (Some side) v = Leaves w s side × (v ≡ w)
