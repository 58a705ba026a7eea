-- Machines given by quintuples, and the step of such a machine (Bennett 1973).
use Rattle.std.specs.Prelude.{◌≡◌, ◌≢◌, ℕ, ◌<◌, ◌^◌, List, [], ◌∷◌, length, Some, All}
use Rattle.bn_machine.specs.Tape.{Tape, scanned, write, shift, word_tape}
use Rattle.bn_machine.specs.Window.{Room, Allows, Windowed, Leaves}
use Rattle.bn_machine.specs.declared.quint.Quint.{Quint}
use Rattle.bn_machine.specs.declared.quint.Side.{Side}
use Rattle.bn_lists.specs.Lists.{nth, HasNone, IsFirstWith}

-- a machine: its quintuples in order, and how many states and symbols it has
pub record Program : Type 0 where
  pub quints : List Quint
  pub states : ℕ
  pub symbols : ℕ

abbrev pub program_of : List Quint → ℕ → ℕ → Program
program_of qs f z = record { quints = qs; states = f; symbols = z }

-- the start state: the first quintuple's state
abbrev pub start_of : List Quint → ℕ
start_of [] = 0
start_of (q ∷ qs) = q.state

-- the final state: the last quintuple's next state
abbrev pub final_of : List Quint → ℕ
final_of [] = 0
final_of (q ∷ []) = q.next
final_of (q ∷ r ∷ qs) = final_of (r ∷ qs)

-- every number of the quintuple is one of the machine's states or symbols
pub record IsInRange (states symbols : ℕ) (q : Quint) : Type 0 where
  pub state : q.state < states
  pub read : q.read < symbols
  pub write : q.write < symbols
  pub next : q.next < states

-- There is a quintuple, there are fewer than 2^32 of them, and all their numbers are in range.
pub record IsMachine (p : Program) : Type 0 where
  pub some : 0 < length p.quints
  pub few : length p.quints < 2 ^ 32
  pub in_range : All (IsInRange p.states p.symbols) p.quints

-- quintuple i, counted from 1, is the first one out of range
pub record IsFirstFault (states symbols : ℕ) (qs : List Quint) (i : ℕ) : Type 0 where
  pub faulty : (q : Quint) × (nth qs i ≡ Some q) × (IsInRange states symbols q → ⊥)
  pub first : (m : ℕ) (q : Quint) → m < i → nth qs m ≡ Some q → IsInRange states symbols q

-- a configuration of the machine, between two steps: its state and its tape
pub record Moment : Type 0 where
  pub state : ℕ
  pub tape : Tape

-- the quintuple has this state and reads this symbol
pub record Matches (q : Quint) (state symbol : ℕ) : Type 0 where
  pub from : state ≡ q.state
  pub reads : symbol ≡ q.read

-- quintuple n, counted from 1, is the first of the list that has this state and reads this symbol
abbrev pub IsFirstMatch : List Quint → ℕ → ℕ → ℕ → Quint → Type 0
IsFirstMatch qs state symbol n q = IsFirstWith (λ r. Matches r state symbol) qs n q

-- no quintuple has this state and reads this symbol
abbrev pub HasNoMatch : List Quint → ℕ → ℕ → Type 0
HasNoMatch qs state symbol = HasNone (λ q. Matches q state symbol) qs

-- A step by this quintuple leads from c to d: it has c's state and scanned symbol, writes, shifts and changes the
-- state.
pub record Applies (q : Quint) (c d : Moment) : Type 0 where
  pub from : c.state ≡ q.state
  pub reads : scanned c.tape ≡ q.read
  pub writes : d.tape ≡ shift (write c.tape q.write) q.shift
  pub to : d.state ≡ q.next

-- The machine is in its final state.
abbrev pub IsFinal : Program → Moment → Type 0
IsFinal p c = c.state ≡ final_of p.quints

-- One step of the machine, by quintuple n: the state is not the final one, the first quintuple that matches is applied,
-- and the head's new position is within the window, if there is one.
pub record GoesBy (room : Room) (p : Program) (n : ℕ) (c d : Moment) : Type 0 where
  pub going : c.state ≢ final_of p.quints
  pub quint : Quint
  pub match : IsFirstMatch p.quints c.state (scanned c.tape) n quint
  pub applies : Applies quint c d
  pub stays : Allows room d.tape.head

-- one step of the machine, by some quintuple
abbrev pub MachineRunsTo : Room → Program → Moment → Moment → Type 0
MachineRunsTo room p c d = (n : ℕ) × GoesBy room p n c d

-- the machine is stuck: no quintuple matches, and the state is not the final one
pub record IsMachineStuck (p : Program) (c : Moment) : Type 0 where
  pub going : c.state ≢ final_of p.quints
  pub none : HasNoMatch p.quints c.state (scanned c.tape)

-- the start: the first quintuple's state, the word at 1 and on, the head at 0
abbrev pub start : Program → List ℕ → Moment
start p word = record { state = start_of p.quints; tape = word_tape word }

-- the configuration of a state and a tape in a window
abbrev pub moment : ℕ → Windowed → Moment
moment state w = record { state = state; tape = w.tape }

-- The first quintuple that matches would take the head out of the window at this end.
pub record IsLeaving (p : Program) (state : ℕ) (w : Windowed) (side : Side) : Type 0 where
  pub going : state ≢ final_of p.quints
  pub number : ℕ
  pub quint : Quint
  pub match : IsFirstMatch p.quints state (scanned w.tape) number quint
  pub leaves : Leaves w quint.shift side
