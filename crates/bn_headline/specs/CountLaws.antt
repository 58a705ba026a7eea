-- How many states the control of Bennett's reversible machine has (this project's own profile).
use Rattle.std.specs.Prelude.{◌≡◌, ℕ, ◌+◌, ◌-◌, ◌*◌, ◌==◌, ◌&&◌, not, Bool, true, false, List, length, count_by}
use Rattle.std.specs.List.{list_any, range_with_len}
use Rattle.bn_machine.specs.Machine.{Program, start_of, final_of}
use Rattle.bn_machine.specs.declared.quint.Shift.{Shift}
use Rattle.bn_machine.specs.declared.quint.Shift.TheVariants.{Left, Stay, Right}
use Rattle.bn_network.specs.Controls.{ControlState, IsNumbering}
use Rattle.bn_bennett_laws.specs.Stages.{IsStandardMachine}
use Rattle.bn_table.specs.Rows.{FitsTable}
use Rattle.bn_bennett.specs.Translation.{Translation, IsTranslation}

-- the head stays
abbrev pub stays : Shift → Bool
stays Left = false
stays Stay = true
stays Right = false

-- how many quintuples don't shift
abbrev pub without_shift : Program → ℕ
without_shift p = count_by (λ q. stays q.shift) p.quints

-- how many states other than the start are no quintuple's next
abbrev pub never_entered : Program → ℕ
never_entered p =
    count_by (λ j. not (j == start_of p.quints) && not (list_any (λ q. q.next == j) p.quints))
    (range_with_len 0 p.states)

-- how many states other than the final one are no quintuple's state
abbrev pub never_left : Program → ℕ
never_left p =
    count_by (λ j. not (j == final_of p.quints) && not (list_any (λ q. q.state == j) p.quints))
    (range_with_len 0 p.states)

-- the control of a machine's translation has this many states
abbrev pub ControlsAreCounted : Type 0
ControlsAreCounted =
    (p : Program) (t : Translation) (names : List ControlState)
    → IsStandardMachine p → FitsTable p → IsTranslation p t → IsNumbering t.machine names
    → length names + 2 * without_shift p + never_entered p + never_left p
    ≡ 12 * length p.quints + 4 * (p.states - 1) + 8 * p.symbols + 16
