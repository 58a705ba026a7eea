-- Tapes in a window: which positions a head may take, and what a tape of finitely many cells stands for.
use Rattle.std.specs.Prelude.{◌≡◌, ◌≢◌, ℕ, ◌+◌, ◌<◌, ℤ, pos, ◌+ℤ◌, ◌-ℤ◌, ◌≤ℤ◌, List, length}
use Rattle.std.proofs.Common.{ap, ◌∙◌, arith, get_or, set, replicate, ◌++◌, append_assoc}
use Rattle.std.proofs.lemmas.Int.{ints, by_lt_z}
use Rattle.std.proofs.lemmas.List.{get_or_past}
use Rattle.std.specs.Int.RustNames.{unsigned_abs}
use Rattle.bn_machine.specs.Tape.{cell, scanned, write, cells_from, symbol_at}
use Rattle.bn_machine.proofs.TapeLemmas.{symbol_at-before, symbol_at-cells_from, cells_from-set, cells_from-blanks}
use Rattle.bn_machine.proofs.TapeLemmas.{cells_from-trailing}
use Rattle.bn_machine.specs.Window.{with_tape, IsWindowed, window_of, IsStored, new_window}

-- position and number of a cell
pub start_plus : (left at : ℕ) → pos at -ℤ pos left ≡ (pos 0 -ℤ pos left) +ℤ pos at
start_plus left at = omega (arith, ints)

pub scanned-window_of : (left right : ℕ) (cells : List ℕ) (at : ℕ)
    → scanned (window_of left right cells at).tape ≡ get_or cells at 0
scanned-window_of left right cells at = symbol_at-cells_from cells (pos 0 -ℤ pos left) at (pos at -ℤ pos left)
    (start_plus left at)

pub cell-window_of : (left right : ℕ) (cells : List ℕ) (at k : ℕ) (p : ℤ) → p ≡ pos k -ℤ pos left
    → cell (window_of left right cells at).tape p ≡ get_or cells k 0
cell-window_of left right cells at k p e = symbol_at-cells_from cells (pos 0 -ℤ pos left) k p (e ∙ start_plus left k)

-- a symbol put into the list is written on the tape
pub window_of-set : (left right : ℕ) (cells : List ℕ) (at s : ℕ) → at < length cells
    → window_of left right (set cells at s) at ≡ with_tape (window_of left right cells at)
    (write (window_of left right cells at).tape s)
window_of-set left right cells at s h =
    let same = cells_from-set cells (pos 0 -ℤ pos left) at s (pos at -ℤ pos left) h (start_plus left at) in
    λ i. record { left = left; right = right; tape = record { cells = same i; head = pos at -ℤ pos left } }

-- a new tape
pub window_of-new : (left right : ℕ) (word : List ℕ) (n : ℕ)
    → window_of left right (replicate (left + 1) 0 ++ word ++ replicate n 0) left ≡ new_window left right word
window_of-new left right word n =
    let first : pos 1 ≡ (pos 0 -ℤ pos left) +ℤ pos (left + 1) = omega (arith, ints) in
    let heads : pos left -ℤ pos left ≡ pos 0 = omega (arith, ints) in
    let same = ap (cells_from (pos 0 -ℤ pos left)) (append_assoc (replicate (left + 1) 0) word (replicate n 0))
    ∙ cells_from-blanks (left + 1) (pos 0 -ℤ pos left) (word ++ replicate n 0) (pos 1) first
    ∙ cells_from-trailing word (pos 1) n in
    λ i. record { left = left; right = right; tape = record { cells = same i; head = heads i } }

-- a position inside the window has a cell; others are blank
blank_before : (left : ℕ) (cells : List ℕ) (p : ℤ) → symbol_at (cells_from (pos 0 -ℤ pos left) cells) p ≢ 0
    → (pos 0 -ℤ pos left) ≤ℤ p
blank_before left cells p n = by_lt_z p (pos 0 -ℤ pos left) (λ h. absurd
    (n (symbol_at-before cells (pos 0 -ℤ pos left) p h))) (λ h. h)

pub symbol_at-after : (ss : List ℕ) (p q : ℤ) → (p +ℤ pos (length ss)) ≤ℤ q → symbol_at (cells_from p ss) q ≡ 0
symbol_at-after ss p q h =
    let step : q ≡ p +ℤ pos (unsigned_abs (q -ℤ p)) = omega (arith, ints) in
    symbol_at-cells_from ss p (unsigned_abs (q -ℤ p)) q step ∙ get_or_past ss (unsigned_abs (q -ℤ p)) 0
    (omega (arith, ints))

-- Cells that are stored make a window.
pub stored-windowed : (left right : ℕ) (cells : List ℕ) (at : ℕ) → IsStored left right cells at
    → IsWindowed (window_of left right cells at)
stored-windowed left right cells at h = record {
  left_side = h.left_side;
  right_side = h.right_side;
  head = record {
    above = omega (arith, ints, h.head_inside);
    below = omega (arith, ints, h.head_inside, h.cells_number);
  };
  outside = λ p n. record {
    above = blank_before left cells p n;
    below = by_lt_z (pos right) p (λ beyond. absurd (n (symbol_at-after cells (pos 0 -ℤ pos left) p
        (omega (arith, ints, h.cells_number))))) (λ inside. inside);
  };
}
