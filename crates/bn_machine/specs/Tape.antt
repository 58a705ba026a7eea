-- Infinite tapes (Bennett 1973): a symbol at each whole number, almost all of them the blank 0, and a head.
use Rattle.std.specs.Prelude.{ℕ, suc, ℤ, pos, negsuc, ◌+ℤ◌, ◌-ℤ◌, List, [], ◌∷◌, Option, Some, None, slice_index}
use Rattle.std.specs.Ordering.{int_cmp}
use Rattle.std.specs.FinMap.{FinMap, empty, get, insert, remove}
use Rattle.std.proofs.Common.{zero}
use Rattle.bn_machine.specs.declared.quint.Shift.{Shift}
use Rattle.bn_machine.specs.declared.quint.Shift.TheVariants.{Left, Stay, Right}

-- The nonblank cells. A stored value v represents the symbol v + 1: no blank is stored, and equal contents are equal
-- values.
abbrev pub Cells : Type 0
Cells = FinMap int_cmp ℕ

-- An infinite tape: its nonblank cells, and the position of its head.
pub record Tape : Type 0 where
  pub cells : Cells
  pub head : ℤ

-- the symbol that a stored value represents
abbrev pub symbol_of : Option ℕ → ℕ
symbol_of None = 0
symbol_of (Some v) = suc v

-- the symbol at a position
unfoldable pub symbol_at : Cells → ℤ → ℕ
symbol_at m p = symbol_of (get m p)

-- the contents with this symbol at the position
unfoldable pub set_cell : Cells → ℤ → ℕ → Cells
set_cell m p zero = remove m p
set_cell m p (suc v) = insert m p v

-- the symbol of a tape at a position
abbrev pub cell : Tape → ℤ → ℕ
cell t p = symbol_at t.cells p

-- the symbol that the head scans
abbrev pub scanned : Tape → ℕ
scanned t = cell t t.head

-- the tape with this symbol under the head
abbrev pub write : Tape → ℕ → Tape
write t s = record { cells = set_cell t.cells t.head s; head = t.head }

-- the position one shift away
abbrev pub moved : ℤ → Shift → ℤ
moved p Left = p -ℤ pos 1
moved p Stay = p
moved p Right = p +ℤ pos 1

-- the shift that undoes another one
abbrev pub opposite : Shift → Shift
opposite Left = Right
opposite Stay = Stay
opposite Right = Left

-- the tape with its head moved
abbrev pub shift : Tape → Shift → Tape
shift t s = record { cells = t.cells; head = moved t.head s }

-- the tape with its head k cells further to the right
abbrev pub ahead : ℕ → Tape → Tape
ahead k t = record { cells = t.cells; head = t.head +ℤ pos k }

-- these symbols from a position on, and blanks elsewhere
unfoldable pub cells_from : ℤ → List ℕ → Cells
cells_from p [] = empty
cells_from p (s ∷ ss) = set_cell (cells_from (p +ℤ pos 1) ss) p s

-- a word at the positions 1 and on, blanks elsewhere, and the head at 0
abbrev pub word_tape : List ℕ → Tape
word_tape xs = record { cells = cells_from (pos 1) xs; head = pos 0 }

-- the tape without any letter
abbrev pub blank_tape : Tape
blank_tape = word_tape []

-- what a word tape holds at a position: the letters at 1 and on, the blank elsewhere
abbrev pub letter_at : List ℕ → ℤ → ℕ
letter_at xs (pos zero) = 0
letter_at xs (pos (suc k)) = slice_index xs k
letter_at xs (negsuc k) = 0
