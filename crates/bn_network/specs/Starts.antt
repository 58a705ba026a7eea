-- The start of a network from any configuration that fits its window, and from three words (own to this project).
use Rattle.std.specs.Prelude.{◌≢◌, ℕ, ◌+◌, ◌<◌, ◌≤◌, ℤ, pos, ◌-ℤ◌, List, ◌∷◌, ◌++◌, length, map, All}
use Rattle.std.specs.List.{range_with_len}
use Rattle.bn_circuits.specs.Situations.{Situation, situation}
use Rattle.bn_circuits.specs.declared.place.Place.TheVariants.{Enter}
use Rattle.bn_machine.specs.Outcome.{Limits}
use Rattle.bn_machine.specs.Tape.{Tape, cell, word_tape}
use Rattle.bn_machine.specs.Window.{IsBetween}
use Rattle.bn_quad.specs.Quadruples.{Configuration, Quadruples, initial_of}
use Rattle.bn_network.specs.Cells.{state_number}
use Rattle.bn_network.specs.Controls.{symbol_count}
use Rattle.bn_network.specs.Networks.{cell_of}

-- ---- any configuration

-- the states of the cells from -left to right of a tape with z symbols
abbrev pub cells_by : ℕ → ℕ → ℕ → Tape → List ℕ
cells_by z left right x =
    map (λ j. state_number z (cell_of x (pos j -ℤ pos left))) (range_with_len 0 (left + right + 1))

-- the network's start: the control in its first state, the cells with these three tapes, the signal at the control's
-- port from outside
abbrev pub start_from : Quadruples → Limits → Configuration ℕ → Situation
start_from m l c =
    situation (0 ∷ cells_by (symbol_count m 1) l.left l.right c.one ++ cells_by (symbol_count m 2) 0 l.steps c.two
    ++ cells_by (symbol_count m 3) 0 l.output c.three) (Enter 0 0)

-- the tape fits the window: its head is inside, all cells outside are blank, and each symbol is one of z symbols
pub record FitsTape (z left right : ℕ) (x : Tape) : Type 0 where
  pub head : IsBetween left right x.head
  pub inside : (p : ℤ) → cell x p ≢ 0 → IsBetween left right p
  pub symbols : (p : ℤ) → cell x p < z

-- each tape of the configuration fits its window
pub record FitsWindow (m : Quadruples) (l : Limits) (c : Configuration ℕ) : Type 0 where
  pub one : FitsTape (symbol_count m 1) l.left l.right c.one
  pub two : FitsTape (symbol_count m 2) 0 l.steps c.two
  pub three : FitsTape (symbol_count m 3) 0 l.output c.three

-- ---- words

-- the initial state with a word on each tape, from cell 1 on, all heads at 0
abbrev pub words_on : Quadruples → List ℕ → List ℕ → List ℕ → Configuration ℕ
words_on m one two three = record {
  state = initial_of m.rules;
  one = word_tape one;
  two = word_tape two;
  three = word_tape three;
}

-- each word consists of its tape's symbols, and is at most as long as its tape's right side
pub record AreInputs (m : Quadruples) (l : Limits) (one two three : List ℕ) : Type 0 where
  pub one_letters : All (λ x. x < symbol_count m 1) one
  pub two_letters : All (λ x. x < symbol_count m 2) two
  pub three_letters : All (λ x. x < symbol_count m 3) three
  pub one_room : length one ≤ l.right
  pub two_room : length two ≤ l.steps
  pub three_room : length three ≤ l.output
