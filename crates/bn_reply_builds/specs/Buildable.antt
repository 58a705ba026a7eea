-- What is known of the machine of a table that was read, and of the symbols of words on its tapes.
use Rattle.std.specs.Prelude.{ℕ, ◌<◌, ◌≤◌, All, List, length}
use Rattle.bn_quad.specs.Calls.{IsUniformMachine}
use Rattle.bn_quad.specs.Quadruples.{IsQuadMachine, Quadruples}
use Rattle.bn_network.specs.Controls.{symbol_count}
use Rattle.bn_network.specs.Moments.{HasLetters}
use Rattle.bn_control.specs.declared.make.TheConstants.{MOST_QUADRUPLES, MOST_STATES}

-- it is a uniform machine with a symbol on each tape, and has no more quadruples and states than a control may have
pub record IsBuildable (m : Quadruples) : Type 0 where
  pub valid : IsQuadMachine m
  pub uniform : IsUniformMachine m
  pub letters : HasLetters m
  pub quadruples : length m.rules ≤ MOST_QUADRUPLES
  pub states : m.states ≤ MOST_STATES

-- the symbols of the words are their tapes'
pub record AreLettersOf (m : Quadruples) (one two three : List ℕ) : Type 0 where
  pub on_one : All (λ x. x < symbol_count m 1) one
  pub on_two : All (λ x. x < symbol_count m 2) two
  pub on_three : All (λ x. x < symbol_count m 3) three
