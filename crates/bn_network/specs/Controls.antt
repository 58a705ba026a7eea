-- The finite control of a uniform machine of quadruples (own to this project), by names, and its table: it sends the
-- commands of a quadruple to the tapes one after another, and waits for the reply to each.
use Rattle.std.specs.Prelude.{◌≡◌, ◌≢◌, ◌↔◌, ℕ, zero, suc, ◌+◌, ◌-◌, ◌<◌, List, [], ◌∷◌, ◌++◌, length, map, reverse}
use Rattle.std.specs.Prelude.{Option, Some, None, slice_get, slice_index}
use Rattle.std.specs.Ordering.{nat_cmp}
use Rattle.std.specs.Cmp.Lexicographic.{slice_cmp}
use Rattle.std.specs.declared.cmp.Ordering.TheVariants.{Less}
use Rattle.bn_element.specs.Tables.{Table, IsReversible}
use Rattle.bn_lists.specs.Lists.{nth}
use Rattle.bn_machine.specs.declared.quint.Shift.{Shift}
use Rattle.bn_machine.specs.declared.quint.Shift.TheVariants as way
use Rattle.bn_machine.specs.declared.quint.Side.{Side}
use Rattle.bn_machine.specs.declared.quint.Side.TheVariants as side
use Rattle.bn_quad.specs.Quadruples.{Deed, Rewrite, Move, Rule, deeds_of, Quadruples, initial_of, final_state_of}
use Rattle.bn_network.specs.declared.cell_line.CellLine.{CellLine}
use Rattle.bn_network.specs.declared.cell_line.CellLine.TheVariants.{Read, Write, ShiftRight, ShiftLeft, Answer}
use Rattle.bn_network.specs.declared.cell_line.CellLine.TheVariants.{DoneWrite, DoneRight, DoneLeft}

-- ---- the commands of a quadruple: first its reads by rising tape, then its shifts other than 0 by rising tape, then
-- its writes by falling tape. Tapes are counted from 1.

-- the read tapes with their symbols, by rising tape, if the first deed of the list is on tape t
abbrev pub reads : ℕ → List Deed → List (ℕ × ℕ)
reads t [] = []
reads t (Rewrite read written ∷ ds) = (t, read) ∷ reads (suc t) ds
reads t (Move s ∷ ds) = reads (suc t) ds

abbrev pub shift_at : ℕ → Shift → List (ℕ × Side)
shift_at t way.Left = (t, side.Left) ∷ []
shift_at t way.Stay = []
shift_at t way.Right = (t, side.Right) ∷ []

-- the shifted tapes, by rising tape
abbrev pub shifts : ℕ → List Deed → List (ℕ × Side)
shifts t [] = []
shifts t (Rewrite read written ∷ ds) = shifts (suc t) ds
shifts t (Move s ∷ ds) = shift_at t s ++ shifts (suc t) ds

-- the written tapes with their symbols, by rising tape
abbrev pub rising : ℕ → List Deed → List (ℕ × ℕ)
rising t [] = []
rising t (Rewrite read written ∷ ds) = (t, written) ∷ rising (suc t) ds
rising t (Move s ∷ ds) = rising (suc t) ds

abbrev pub reads_of : Rule ℕ → List (ℕ × ℕ)
reads_of r = reads 1 (deeds_of r)

abbrev pub shifts_of : Rule ℕ → List (ℕ × Side)
shifts_of r = shifts 1 (deeds_of r)

-- the written tapes with their symbols, by falling tape
abbrev pub writes_of : Rule ℕ → List (ℕ × ℕ)
writes_of r = reverse (rising 1 (deeds_of r))

-- ---- states and ports

-- `Begin` before the start; `End` in the machine's final state. `Reads a s`: in state a of the machine, waiting for
-- the reply to the next read, after the symbols s were read. `Shifts n t`: in quadruple n, counted from 1, waiting
-- for the reply to the shift of tape t. `Writes a t u`: on the way to state a, waiting for the reply to the write on
-- tape t, with the symbols u still to be written on lower tapes, by falling tape.
pub data ControlState : Type 0 where
  Begin : ControlState
  End : ControlState
  Reads : ℕ → List ℕ → ControlState
  Shifts : ℕ → ℕ → ControlState
  Writes : ℕ → ℕ → List ℕ → ControlState

-- the port to or from the outside (`Outside`), and a port to or from a tape (`Tape`)
pub data ControlLine : Type 0 where
  Outside : ControlLine
  Tape : ℕ → CellLine → ControlLine

abbrev pub ControlMove : Type 0
ControlMove = ControlState × ControlLine

abbrev pub symbols_read : List (ℕ × ℕ) → List ℕ
symbols_read l = map (λ (p : ℕ × ℕ). p.1) l

abbrev pub shift_line : Side → CellLine
shift_line side.Left = ShiftLeft
shift_line side.Right = ShiftRight

abbrev pub done_line : Side → CellLine
done_line side.Left = DoneLeft
done_line side.Right = DoneRight

abbrev pub to_read : ℕ → List (ℕ × ℕ) → (ℕ × ℕ) → ControlMove
to_read a before p = (Reads a (symbols_read before), Tape p.0 Read)

abbrev pub to_shift : ℕ → (ℕ × Side) → ControlMove
to_shift n p = (Shifts n p.0, Tape p.0 (shift_line p.1))

abbrev pub to_write : ℕ → (ℕ × ℕ) → List (ℕ × ℕ) → ControlMove
to_write a p rest = (Writes a p.0 (symbols_read rest), Tape p.0 (Write p.1))

-- the next command of quadruple n, if these writes, shifts or reads remain; e is the first command of the next state
abbrev pub to_writes : ControlMove → ℕ → List (ℕ × ℕ) → ControlMove
to_writes e a [] = e
to_writes e a (p ∷ rest) = to_write a p rest

abbrev pub to_shifts : ControlMove → ℕ → Rule ℕ → List (ℕ × Side) → ControlMove
to_shifts e n r [] = to_writes e r.to (writes_of r)
to_shifts e n r (p ∷ rest) = to_shift n p

abbrev pub to_reads : ControlMove → ℕ → Rule ℕ → List (ℕ × ℕ) → List (ℕ × ℕ) → ControlMove
to_reads e n r before [] = to_shifts e n r (shifts_of r)
to_reads e n r before (p ∷ rest) = to_read r.from before p

-- the first command of quadruple n: its first read, or its first shift if it reads nothing
abbrev pub IsFirstOf : ℕ → Rule ℕ → List (ℕ × ℕ) → List (ℕ × Side) → ControlMove → Type 0
IsFirstOf n r [] [] k = ⊥
IsFirstOf n r [] (p ∷ rest) k = k ≡ to_shift n p
IsFirstOf n r (p ∷ rest) ss k = k ≡ to_read r.from [] p

-- no quadruple leaves the state
pub record IsNotLeft (m : Quadruples) (a : ℕ) : Type 0 where
  pub none : (n : ℕ) (r : Rule ℕ) → nth m.rules n ≡ Some r → r.from ≢ a

-- The first command of a state of the machine, with the control's state that waits for its reply. In the final state
-- the signal leaves. In another state the command is the first read of a quadruple that leaves the state, or its
-- first shift if it reads nothing. If no quadruple leaves the state, the command is a read of tape 1.
pub data IsEntry (m : Quadruples) (a : ℕ) (k : ControlMove) : Type 0 where
  finishes : a ≡ final_state_of m.rules → k ≡ (End, Outside) → IsEntry m a k
  leaves : (n : ℕ) (r : Rule ℕ) → nth m.rules n ≡ Some r → r.from ≡ a → IsFirstOf n r (reads_of r) (shifts_of r) k
      → IsEntry m a k
  waits : a ≢ final_state_of m.rules → a < m.states → IsNotLeft m a → k ≡ to_read a [] (1, 0) → IsEntry m a k

-- The control's moves, from a state and an input port to a state and an output port. The control begins with the
-- first command of the initial state. After a read it continues with the next read of the quadruple, or with its
-- shifts after the last read; after shifts and writes likewise, and at the end with the first command of the next
-- state. If no quadruple's reads begin with the replies so far, there is no move.
pub data ControlGoes (m : Quadruples) (q : ControlState) (i : ControlLine) (k : ControlMove) : Type 0 where
  begins : q ≡ Begin → i ≡ Outside → IsEntry m (initial_of m.rules) k → ControlGoes m q i k
  reads_on : (n : ℕ) (r : Rule ℕ) → nth m.rules n ≡ Some r → (e : ControlMove) → IsEntry m r.to e
      → (before rest : List (ℕ × ℕ)) (p : ℕ × ℕ) → reads_of r ≡ before ++ (p ∷ rest)
      → q ≡ Reads r.from (symbols_read before) → i ≡ Tape p.0 (Answer p.1)
      → k ≡ to_reads e n r (before ++ (p ∷ [])) rest → ControlGoes m q i k
  shifts_on : (n : ℕ) (r : Rule ℕ) → nth m.rules n ≡ Some r → (e : ControlMove) → IsEntry m r.to e
      → (before rest : List (ℕ × Side)) (p : ℕ × Side) → shifts_of r ≡ before ++ (p ∷ rest)
      → q ≡ Shifts n p.0 → i ≡ Tape p.0 (done_line p.1) → k ≡ to_shifts e n r rest → ControlGoes m q i k
  writes_on : (n : ℕ) (r : Rule ℕ) → nth m.rules n ≡ Some r → (e : ControlMove) → IsEntry m r.to e
      → (before rest : List (ℕ × ℕ)) (p : ℕ × ℕ) → writes_of r ≡ before ++ (p ∷ rest)
      → q ≡ Writes r.to p.0 (symbols_read rest) → i ≡ Tape p.0 DoneWrite → k ≡ to_writes e r.to rest
      → ControlGoes m q i k

-- The states of the control: the first and the last; one for each state that is not final and that no quadruple
-- leaves, which waits for a reply of tape 1 for which it has no move; and one for each read, shift and write of each
-- quadruple.
pub data Occurs (m : Quadruples) (q : ControlState) : Type 0 where
  is_begin : q ≡ Begin → Occurs m q
  is_end : q ≡ End → Occurs m q
  is_open : (a : ℕ) → a < m.states → a ≢ final_state_of m.rules → IsNotLeft m a → q ≡ Reads a [] → Occurs m q
  is_read : (n : ℕ) (r : Rule ℕ) → nth m.rules n ≡ Some r → (before rest : List (ℕ × ℕ)) (p : ℕ × ℕ)
      → reads_of r ≡ before ++ (p ∷ rest) → q ≡ Reads r.from (symbols_read before) → Occurs m q
  is_shift : (n : ℕ) (r : Rule ℕ) → nth m.rules n ≡ Some r → (before rest : List (ℕ × Side)) (p : ℕ × Side)
      → shifts_of r ≡ before ++ (p ∷ rest) → q ≡ Shifts n p.0 → Occurs m q
  is_write : (n : ℕ) (r : Rule ℕ) → nth m.rules n ≡ Some r → (before rest : List (ℕ × ℕ)) (p : ℕ × ℕ)
      → writes_of r ≡ before ++ (p ∷ rest) → q ≡ Writes r.to p.0 (symbols_read rest) → Occurs m q

-- The key by which the states are ordered, a word of numbers: the kinds in their order; reads by state, by the number
-- of symbols read, by these symbols; shifts by quadruple and tape; writes by state, by falling tape, by the symbols.
abbrev pub key_of : ControlState → List ℕ
key_of Begin = 0 ∷ []
key_of End = 1 ∷ []
key_of (Reads a s) = 2 ∷ a ∷ length s ∷ s
key_of (Shifts n t) = 3 ∷ n ∷ t ∷ []
key_of (Writes a t u) = 4 ∷ a ∷ (3 - t) ∷ u

-- the control's states in order: each state that occurs has a number, no other state has one, and the keys rise
pub record IsNumbering (m : Quadruples) (names : List ControlState) : Type 0 where
  pub each : (q : ControlState) → Occurs m q → (n : ℕ) × (slice_get names n ≡ Some q)
  pub only : (n : ℕ) (q : ControlState) → slice_get names n ≡ Some q → Occurs m q
  pub rising_keys : (i j : ℕ) (q r : ControlState) → i < j → slice_get names i ≡ Some q → slice_get names j ≡ Some r
      → slice_cmp nat_cmp (key_of q) (key_of r) ≡ Less

-- ---- numbers of ports, from 0

-- the number of symbols of a tape; tapes are counted from 1
abbrev pub symbol_count : Quadruples → ℕ → ℕ
symbol_count m zero = 0
symbol_count m (suc t) = slice_index m.symbols t

-- the number of the control's ports before those of tape t + 1, for the argument t: the outside port, and z + 3 ports
-- for each earlier tape with z symbols
abbrev pub lines_before : List ℕ → ℕ → ℕ
lines_before zs zero = 1
lines_before [] (suc t) = 1
lines_before (z ∷ zs) (suc t) = z + 3 + lines_before zs t

abbrev pub answer_offset : ℕ → CellLine → ℕ
answer_offset z (Answer c) = c
answer_offset z DoneWrite = z
answer_offset z DoneRight = z + 1
answer_offset z DoneLeft = z + 2
answer_offset z _ = 0

abbrev pub command_offset : ℕ → CellLine → ℕ
command_offset z Read = 0
command_offset z (Write c) = 1 + c
command_offset z ShiftRight = z + 1
command_offset z ShiftLeft = z + 2
command_offset z _ = 0

abbrev pub control_lines : Quadruples → ℕ
control_lines m = lines_before m.symbols 3

abbrev pub in_number : Quadruples → ControlLine → ℕ
in_number m Outside = 0
in_number m (Tape t l) = lines_before m.symbols (t - 1) + answer_offset (symbol_count m t) l

abbrev pub out_number : Quadruples → ControlLine → ℕ
out_number m Outside = 0
out_number m (Tape t l) = lines_before m.symbols (t - 1) + command_offset (symbol_count m t) l

-- The record of the first command of a state of the machine: the state of the control that waits for its reply, and
-- the output port by which it is sent; nothing for the final state.
pub data IsFirstKept (m : Quadruples) (names : List ControlState) (a : ℕ) : Option (ℕ × ℕ) → Type 0 where
  final_kept : a ≡ final_state_of m.rules → IsFirstKept m names a None
  sent_kept : a ≢ final_state_of m.rules → (k : ControlMove) (q : ℕ) → IsEntry m a k → slice_get names q ≡ Some k.0
      → IsFirstKept m names a (Some (q, out_number m k.1))

-- a move by the numbers of its states and ports
pub record NumberedGoes (m : Quadruples) (names : List ControlState) (n j r o : ℕ) : Type 0 where
  pub state : ControlState
  pub line : ControlLine
  pub move : ControlMove
  pub goes : ControlGoes m state line move
  pub from : slice_get names n ≡ Some state
  pub enters : in_number m line ≡ j
  pub to : slice_get names r ≡ Some move.0
  pub exits : out_number m move.1 ≡ o

-- the control as an element
pub record IsControlTable (m : Quadruples) (names : List ControlState) (t : Table) : Type 0 where
  pub states : t.states ≡ length names
  pub inputs : t.inputs ≡ control_lines m
  pub outputs : t.outputs ≡ control_lines m
  pub goes : (n j r o : ℕ) → (t.go n j ≡ Some (r, o)) ↔ NumberedGoes m names n j r o
  pub reversible : IsReversible t
