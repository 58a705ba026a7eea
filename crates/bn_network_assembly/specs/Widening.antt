-- Windows that grow: the first one for a word, and the window with the number of one end doubled (own to this
-- project).
use Rattle.std.specs.Prelude.{◌≡◌, ℕ, ◌+◌, ◌≤◌, List, length, max}
use Rattle.std.proofs.Common.{zero, suc}
use Rattle.bn_machine.specs.Outcome.{Limits}
use Rattle.bn_machine.specs.declared.quint.Side.{Side}
use Rattle.bn_machine.specs.declared.quint.Side.TheVariants.{Left, Right}

-- the first window: the right side of tape 1 has room for the word, and at least one cell; every other side has one
-- cell
abbrev pub first_window : List ℕ → Limits
first_window word = record { left = 1; right = max 1 (length word); steps = 1; output = 1 }

-- an end at which a bounded run can leave its window: either end of tape 1, or the right end of tape 2 or of tape 3
pub data IsEnd (tape : ℕ) (side : Side) : Type 0 where
  of_work : tape ≡ 1 → IsEnd tape side
  of_history : tape ≡ 2 → side ≡ Right → IsEnd tape side
  of_output : tape ≡ 3 → side ≡ Right → IsEnd tape side

-- the number of cells on the side of this end; 0 if there is no such end
abbrev pub number_at : Limits → ℕ → Side → ℕ
number_at w (suc zero) Left = w.left
number_at w (suc zero) Right = w.right
number_at w (suc (suc zero)) Right = w.steps
number_at w (suc (suc (suc zero))) Right = w.output
number_at w _ _ = 0

-- the window with the number of this end doubled; unchanged if there is no such end
abbrev pub widened : Limits → ℕ → Side → Limits
widened w zero side = w
widened w (suc zero) Left = record { left = w.left + w.left; right = w.right; steps = w.steps; output = w.output }
widened w (suc zero) Right = record { left = w.left; right = w.right + w.right; steps = w.steps; output = w.output }
widened w (suc (suc zero)) Left = w
widened w (suc (suc zero)) Right = record {
  left = w.left;
  right = w.right;
  steps = w.steps + w.steps;
  output = w.output;
}
widened w (suc (suc (suc zero))) Left = w
widened w (suc (suc (suc zero))) Right = record {
  left = w.left;
  right = w.right;
  steps = w.steps;
  output = w.output + w.output;
}
widened w (suc (suc (suc (suc t)))) side = w

-- each number of the window is at least 1
pub record IsWhole (w : Limits) : Type 0 where
  pub left : 1 ≤ w.left
  pub right : 1 ≤ w.right
  pub steps : 1 ≤ w.steps
  pub output : 1 ≤ w.output

-- the number of cells of a window's three tapes
abbrev pub cells : Limits → ℕ
cells w = (w.left + w.right + 1) + (w.steps + 1) + (w.output + 1)
