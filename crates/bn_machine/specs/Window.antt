-- Tapes in a window: the positions that a head may take, and the infinite tape that finitely many cells represent.
use Rattle.std.specs.Prelude.{◌≡◌, ◌≢◌, ℕ, ◌+◌, ◌<◌, ◌≤◌, ℤ, pos, ◌-ℤ◌, ◌≤ℤ◌, ◌<ℤ◌, List, length, refl, ⊤}
use Rattle.std.specs.FinMap.{code}
use Rattle.std.specs.Coded.{Coded, code_by, coded×, coded_ℕ, coded_ℤ}
use Rattle.bn_machine.specs.Tape.{Tape, Cells, cell, cells_from, moved, word_tape}
use Rattle.bn_machine.specs.declared.quint.Shift.{Shift}
use Rattle.bn_machine.specs.declared.quint.Side.{Side}
use Rattle.bn_machine.specs.declared.quint.Side.TheVariants.{Left, Right}
use Rattle.bn_machine.specs.declared.tape.TheConstants.Tape.{GREATEST_SIDE}

-- the positions that a head may take: all of them, or those from -left to right (a window)
pub data Room : Type 0 where
  anywhere : Room
  within : ℕ → ℕ → Room

-- the position lies from -left to right
pub record IsBetween (left right : ℕ) (p : ℤ) : Type 0 where
  pub above : (pos 0 -ℤ pos left) ≤ℤ p
  pub below : p ≤ℤ pos right

-- the head may be at the position: `anywhere` allows each position, a window those from -left to right
abbrev pub Allows : Room → ℤ → Type 0
Allows anywhere p = ⊤
Allows (within left right) p = IsBetween left right p

-- the position lies beyond this end
abbrev pub IsBeyond : ℕ → ℕ → Side → ℤ → Type 0
IsBeyond left right Left p = p <ℤ (pos 0 -ℤ pos left)
IsBeyond left right Right p = pos right <ℤ p

-- a tape with a window from -left to right
pub record Windowed : Type 0 where
  pub left : ℕ
  pub right : ℕ
  pub tape : Tape

abbrev pub windowed_code : Coded Windowed
windowed_code =
    code_by ((ℕ × ℕ) × (Cells × ℤ)) (coded× (coded× coded_ℕ coded_ℕ) (coded× (code coded_ℤ coded_ℕ) coded_ℤ))
    (λ w. ((w.left, w.right), (w.tape.cells, w.tape.head)))
    (λ p. record { left = p.0.0; right = p.0.1; tape = record { cells = p.1.0; head = p.1.1 } })
    (λ _. refl)

-- the same window with another tape in it
abbrev pub with_tape : Windowed → Tape → Windowed
with_tape w t = record { left = w.left; right = w.right; tape = t }

-- the positions of the window
abbrev pub IsInside : Windowed → ℤ → Type 0
IsInside w p = IsBetween w.left w.right p

-- the shift would take the head out of the window at this end
abbrev pub Leaves : Windowed → Shift → Side → Type 0
Leaves w s side = IsBeyond w.left w.right side (moved w.tape.head s)

-- Each side has at most `GREATEST_SIDE` cells; the head is inside; all cells outside are blank.
pub record IsWindowed (w : Windowed) : Type 0 where
  pub left_side : w.left ≤ GREATEST_SIDE
  pub right_side : w.right ≤ GREATEST_SIDE
  pub head : IsInside w w.tape.head
  pub outside : (p : ℤ) → cell w.tape p ≢ 0 → IsInside w p

-- the window of a list of cells, the first at position -left, with the head at the cell numbered `at`, counted from 0
abbrev pub window_of : ℕ → ℕ → List ℕ → ℕ → Windowed
window_of left right cells at = record {
  left = left;
  right = right;
  tape = record { cells = cells_from (pos 0 -ℤ pos left) cells; head = pos at -ℤ pos left };
}

-- the list has one cell for each position, and the head is at one of them
pub record IsStored (left right : ℕ) (cells : List ℕ) (at : ℕ) : Type 0 where
  pub left_side : left ≤ GREATEST_SIDE
  pub right_side : right ≤ GREATEST_SIDE
  pub cells_number : length cells ≡ left + right + 1
  pub head_inside : at < length cells

-- the window of a new tape: the word from 1 on, the head at 0
abbrev pub new_window : ℕ → ℕ → List ℕ → Windowed
new_window left right word = record { left = left; right = right; tape = word_tape word }
