-- The numbers by which a circuit is read (own to this project): its exits, its moments, and the tapes that its cells
-- show.
use Rattle.std.specs.Prelude.{◌≡◌, ◌↔◌, ℕ, zero, suc, ◌+◌, ◌-◌, ◌*◌, ◌<◌, ◌≤◌, ℤ, pos, ◌-ℤ◌, Bool, false, not}
use Rattle.std.specs.Prelude.{List, [], length, map, position, Option, Some, None, slice_get, if◌then◌else◌, ◌==◌, ◌&&◌}
use Rattle.std.specs.Prelude.{nat_lt, is_some}
use Rattle.std.specs.List.{range_with_len, slice_index_or}
use Rattle.std.specs.Option.{option_map}
use Rattle.std.specs.Ordering.{int_eq}
use Rattle.bn_circuits.specs.Circuits.{Circuit}
use Rattle.bn_circuits.specs.declared.place.Place.{Place}
use Rattle.bn_circuits.specs.declared.place.Place.TheVariants.{Enter, Left}
use Rattle.bn_circuits.specs.declared.config.Config.{Config}
use Rattle.bn_element.specs.Rotary.{east, west}
use Rattle.bn_realise.specs.Banks.{bottom_at, column_at}
use Rattle.bn_machine.specs.Outcome.{Limits}
use Rattle.bn_machine.specs.declared.quint.Side.TheVariants as side
use Rattle.bn_machine.specs.Tape.{Tape, cell}
use Rattle.bn_quad.specs.Quadruples.{Configuration, Quadruples}
use Rattle.bn_boards.specs.declared.exit.Exit.{Exit}
use Rattle.bn_boards.specs.declared.exit.Exit.TheVariants.{Inside, End, Stuck, Window, Unnamed}
use Rattle.bn_boards.specs.declared.spelled.SpelledTape.{SpelledTape}
use Rattle.bn_boards.specs.declared.spelled.Spelled.{Spelled}
use Rattle.bn_network.specs.declared.cell_line.CellLine.TheVariants.{Read, TakeRight, TakeLeft}
use Rattle.bn_circuits.specs.Counting.{tally, one_if}
use Rattle.bn_network.specs.Cells.{line_number, cell_line_count}
use Rattle.bn_network.specs.Controls.{ControlState, Reads, Tape as to_tape, IsEntry, lines_before, IsFirstKept}
use Rattle.bn_network.specs.Networks.{cells_in, left_of, bank_size, cell_size}

-- The data by which a circuit is read, beside its elements and wires: the limits; the numbers of symbols; the number
-- of the control's states; for each state of the quadruple machine the control state and the output port of its first
-- command, or nothing for the final state; for each control state that waits for a first read, the state of the
-- quadruple machine and the tape.
pub record Layout : Type 0 where
  pub limits : Limits
  pub symbols : List ℕ
  pub states : ℕ
  pub firsts : List (Option (ℕ × ℕ))
  pub awaited : List (Option (ℕ × ℕ))

abbrev pub symbol_count_at : Layout → ℕ → ℕ
symbol_count_at b zero = 0
symbol_count_at b (suc t) = slice_index_or b.symbols t 0

abbrev pub lines_at : Layout → ℕ
lines_at b = lines_before b.symbols 3

-- the first element of a tape's first cell
abbrev pub first_element : Layout → ℕ → ℕ
first_element b zero = 0
first_element b (suc zero) = bank_size b.states (lines_at b)
first_element b (suc (suc t)) =
    first_element b (suc t) + cells_in b.limits (suc t) * cell_size (symbol_count_at b (suc t))

-- the first element of the cell at place p of a tape, counted from 0
abbrev pub cell_element : Layout → ℕ → ℕ → ℕ
cell_element b t p = first_element b t + p * cell_size (symbol_count_at b t)

abbrev pub elements_of : Layout → ℕ
elements_of b = first_element b 4

-- ---- exits

-- the place of a signal that leaves by an output port of a cell
abbrev pub cell_output : Layout → ℕ → ℕ → ℕ → Place
cell_output b t p l = Left (column_at (cell_element b t p) (cell_line_count (symbol_count_at b t))
    (2 * symbol_count_at b t - 1) + l) east

abbrev pub end_place : Layout → Place
end_place b = Left (column_at 0 (lines_at b) (b.states - 1)) east

-- the exit by which the signal left, if it left (among these ports, those by which a signal can have left have no
-- wire)
pub data IsNamedExit (b : Layout) (p : Place) : Exit → Type 0 where
  inside : (e l : ℕ) → p ≡ Enter e l → IsNamedExit b p Inside
  ends : p ≡ end_place b → IsNamedExit b p End
  stuck : (q a t c : ℕ) → slice_get b.awaited q ≡ Some (Some (a, t)) → c < symbol_count_at b t
      → p ≡ Left (column_at 0 (lines_at b) q + (lines_before b.symbols (t - 1) + c)) west
      → IsNamedExit b p (Stuck a c)
  right : (t : ℕ) → 0 < t → t ≤ 3
      → p ≡ cell_output b t (cells_in b.limits t - 1) (line_number (symbol_count_at b t) TakeRight)
      → IsNamedExit b p (Window t side.Right)
  left : (t : ℕ) → 0 < t → t ≤ 3 → p ≡ cell_output b t 0 (line_number (symbol_count_at b t) TakeLeft)
      → IsNamedExit b p (Window t side.Left)

-- the exit of the signal; a port without a name has the exit `Unnamed`
pub data IsExit (b : Layout) (p : Place) (e : Exit) : Type 0 where
  named : IsNamedExit b p e → IsExit b p e
  unnamed : e ≡ Unnamed → ((x : Exit) → IsNamedExit b p x → ⊥) → IsExit b p e

-- ---- moments

abbrev pub same_place : Place → Place → Bool
same_place (Enter e i) (Enter f j) = e == f && i == j
same_place (Enter e i) (Left f j) = false
same_place (Left e i) (Enter f j) = false
same_place (Left e i) (Left f j) = e == f && i == j

-- the place to which a command of the control leads, by its output port: the port in the same position among those of
-- its tape's first cell
abbrev pub command_place : Layout → ℕ → Place
command_place b o =
    if nat_lt o (lines_before b.symbols 1) then Enter (first_element b 1 + (o - lines_before b.symbols 0)) west
    else if nat_lt o (lines_before b.symbols 2) then Enter (first_element b 2 + (o - lines_before b.symbols 1)) west
    else Enter (first_element b 3 + (o - lines_before b.symbols 2)) west

abbrev pub is_marked_at : List ℕ → ℕ → Bool
is_marked_at states e = slice_index_or states e 1 == 0

-- the signal is where this first command leads, and the control waits for its reply
abbrev pub is_sent : Layout → Config → Option (ℕ × ℕ) → Bool
is_sent b c None = same_place c.place (end_place b)
is_sent b c (Some f) = same_place c.place (command_place b f.1) && is_marked_at c.states (bottom_at 0 (lines_at b) f.0)

-- the state of the quadruple machine whose moment this is
abbrev pub moment_at : Layout → Config → Option ℕ
moment_at b c = position (is_sent b c) b.firsts

abbrev pub is_moment : Layout → Config → Bool
is_moment b c = is_some (moment_at b c)

-- the number of moments from this configuration on, over at most t steps
abbrev pub moments : Layout → Circuit → ℕ → Config → ℕ
moments b k t c = one_if (is_moment b c) + tally (is_moment b) k t c

-- ---- the tapes that the cells show

-- the first marked column of a bank
abbrev pub marked_column : List ℕ → ℕ → ℕ → ℕ → Option ℕ
marked_column states b n k = position (λ j. is_marked_at states (bottom_at b k j)) (range_with_len 0 n)

abbrev pub cell_state_at : Layout → List ℕ → ℕ → ℕ → Option ℕ
cell_state_at b states t p =
    marked_column states (cell_element b t p) (2 * symbol_count_at b t) (cell_line_count (symbol_count_at b t))

abbrev pub symbol_by : ℕ → ℕ → ℕ
symbol_by z q = if nat_lt q z then q else q - z

abbrev pub has_head : ℕ → Option ℕ → Bool
has_head z None = false
has_head z (Some q) = not (nat_lt q z)

abbrev pub cells_shown : Layout → List ℕ → ℕ → List (Option ℕ)
cells_shown b states t = map (λ p. option_map (symbol_by (symbol_count_at b t)) (cell_state_at b states t p))
    (range_with_len 0 (cells_in b.limits t))

abbrev pub head_shown : Layout → List ℕ → ℕ → Option ℤ
head_shown b states t = option_map (λ p. pos p -ℤ pos (left_of b.limits t))
    (position (λ p. has_head (symbol_count_at b t) (cell_state_at b states t p))
    (range_with_len 0 (cells_in b.limits t)))

abbrev pub spelled_tape : Layout → List ℕ → ℕ → SpelledTape
spelled_tape b states t = record {
  first = pos 0 -ℤ pos (left_of b.limits t);
  head = head_shown b states t;
  cells = cells_shown b states t;
}

abbrev pub spelled_by : Layout → List ℕ → Spelled
spelled_by b states = record {
  one = spelled_tape b states 1;
  two = spelled_tape b states 2;
  three = spelled_tape b states 3;
}

-- The contents of a tape that n cells show, of which `below` are left of 0: the position of its head, if it is in one
-- of them, and the symbols.
abbrev pub tape_in : ℕ → ℕ → Tape → SpelledTape
tape_in below n x = record {
  first = pos 0 -ℤ pos below;
  head = option_map (λ j. pos j -ℤ pos below) (position (λ j. int_eq (pos j -ℤ pos below) x.head) (range_with_len 0 n));
  cells = map (λ j. Some (cell x (pos j -ℤ pos below))) (range_with_len 0 n);
}

-- the contents of three tapes that the cells show
abbrev pub spelled_tapes : Limits → (Tape × Tape × Tape) → Spelled
spelled_tapes l x = record {
  one = tape_in l.left (l.left + l.right + 1) x.0;
  two = tape_in 0 (l.steps + 1) x.1;
  three = tape_in 0 (l.output + 1) x.2;
}

abbrev pub spelled_config : Limits → Configuration ℕ → Spelled
spelled_config l c = spelled_tapes l (c.one, c.two, c.three)

-- ---- the layout of a machine's circuit

pub record IsLayout (m : Quadruples) (l : Limits) (names : List ControlState) (b : Layout) : Type 0 where
  pub limits : b.limits ≡ l
  pub symbols : b.symbols ≡ m.symbols
  pub states : b.states ≡ length names
  pub counted : length b.firsts ≡ m.states
  pub firsts : (a : ℕ) (f : Option (ℕ × ℕ)) → slice_get b.firsts a ≡ Some f → IsFirstKept m names a f
  pub awaited_counted : length b.awaited ≡ length names
  pub awaiting : (q a t : ℕ)
      → (slice_get b.awaited q ≡ Some (Some (a, t))) ↔ ((slice_get names q ≡ Some (Reads a []))
      × IsEntry m a (Reads a [], to_tape t Read))
