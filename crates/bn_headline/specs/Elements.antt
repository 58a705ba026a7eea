-- How many rotary elements the circuit of a machine has, and how many steps it may need: numbers of the machine and its
-- limits alone (this project's own profile).
use Rattle.std.specs.Prelude.{ℕ, ◌+◌, ◌-◌, ◌*◌, length}
use Rattle.bn_machine.specs.Machine.{Program}
use Rattle.bn_machine.specs.Outcome.{Limits}
use Rattle.bn_network.specs.Networks.{bank_size, cell_size}
use Rattle.bn_headline.specs.CountLaws.{without_shift, never_entered, never_left}

-- The control has this many states: twelve for each quintuple, less two for each without a shift; four for each state
-- but one, less one for each state but the start that no quintuple enters, and one for each but the final that none
-- leaves; eight for each symbol; and sixteen.
abbrev pub control_states : Program → ℕ
control_states p =
    12 * length p.quints + 4 * (p.states - 1) + 8 * p.symbols + 16
    - (2 * without_shift p + never_entered p + never_left p)

-- The circuit has this many elements: the control, a bank with a line for each symbol of each tape, three more for each
-- tape, and one from outside; and the cells of the work tape, of the history, whose symbols are the blank and one for
-- each quintuple, and of the output tape.
abbrev pub elements : Program → Limits → ℕ
elements p l =
    bank_size (control_states p) (2 * p.symbols + length p.quints + 11)
    + (l.left + l.right + 1) * cell_size p.symbols + (l.steps + 1) * cell_size (length p.quints + 1)
    + (l.output + 1) * cell_size p.symbols

-- the signal makes at most this many element steps
abbrev pub most_steps : Program → Limits → ℕ
most_steps p l = 48 * elements p l * (4 * l.steps + 4 * l.output + 7)
