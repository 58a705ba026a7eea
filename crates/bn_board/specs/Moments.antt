-- The command of the control that leads to the place of the signal.
use Rattle.std.specs.Prelude.{◌≡◌, ◌↔◌, ℕ, ◌+◌, ◌-◌, ◌<◌, ◌≤◌, Bool, not, ◌==◌, ◌&&◌, ◌||◌, nat_lt, Option, Some}
use Rattle.bn_circuits.specs.declared.line.Line.{Line}
use Rattle.bn_circuits.specs.declared.place.Place.TheVariants.{Enter}
use Rattle.bn_element.specs.Rotary.{west}
use Rattle.bn_boards.specs.Layouts.{Layout, first_element, symbol_count_at, lines_at, command_place}
use Rattle.bn_board.specs.declared.first_rows.FirstRows.{FirstRows}

-- the control's output port whose command to a tape leads to the west of this element, if there is one
abbrev pub IsCommandTo : Layout → ℕ → Option ℕ → Type 0
IsCommandTo b e line = (o : ℕ) → (line ≡ Some o) ↔ ((1 ≤ o) × (o < lines_at b) × (command_place b o ≡ Enter e west))

-- the element is one of `count` consecutive elements, the first of which is `first`
abbrev pub is_among : ℕ → ℕ → ℕ → Bool
is_among first count e = not (nat_lt e first) && nat_lt (e - first) count

-- the port is the west of one of these rows
abbrev pub enters_first : FirstRows → Line → Bool
enters_first rows at =
    at.line == west && (is_among rows.one.first rows.one.count at.element
    || is_among rows.two.first rows.two.count at.element || is_among rows.three.first rows.three.count at.element)

-- these are the rows of the first cells to which the control's commands lead
pub record AreFirstRows (b : Layout) (rows : FirstRows) : Type 0 where
  pub one : rows.one.first ≡ first_element b 1
  pub one_count : rows.one.count ≡ symbol_count_at b 1 + 3
  pub two : rows.two.first ≡ first_element b 2
  pub two_count : rows.two.count ≡ symbol_count_at b 2 + 3
  pub three : rows.three.first ≡ first_element b 3
  pub three_count : rows.three.count ≡ symbol_count_at b 3 + 3
