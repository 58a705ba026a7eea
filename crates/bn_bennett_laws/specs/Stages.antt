-- The contents of the three tapes at each step of a run of Bennett's reversible machine (Bennett 1973).
use Rattle.std.specs.Prelude.{◌≡◌, ◌≢◌, ℕ, suc, ◌+◌, ◌*◌, ◌<◌, ◌≤◌, ℤ, pos, ◌+ℤ◌, List, [], length, reverse, take, All}
use Rattle.bn_machine.specs.Tape.{Tape, scanned, write, shift, ahead, word_tape, blank_tape}
use Rattle.bn_machine.specs.Window.{anywhere, within}
use Rattle.bn_machine.specs.Machine.{Program, Moment, GoesBy, MachineRunsTo, IsFinal, IsMachine, start}
use Rattle.bn_machine.specs.Run.{Follows, IsOutput}
use Rattle.bn_machine.specs.Outcome as outcome
use Rattle.bn_machine.specs.Outcome.{Limits, Outcome}
use Rattle.bn_machine.specs.declared.quint.Quint.{Quint}
use Rattle.bn_machine.specs.declared.quint.Shift.TheVariants.{Right}
use Rattle.bn_machine.specs.declared.quint.Side.{Side}
use Rattle.bn_machine.specs.declared.quint.Side.TheVariants as side
use Rattle.bn_machine.specs.Standard.{IsStandard}
use Rattle.bn_quad.specs.Quadruples.{Configuration, Rooms}
use Rattle.bn_bennett_laws.specs.List.{bennett, final_name}
use Rattle.bn_bennett_laws.specs.Steps.{Steps, Exit, Finished, Stopped, Leaving, HasExit, HasNoFirstRead}
use Rattle.bn_bennett_laws.specs.declared.name.Name.{Name}
use Rattle.bn_bennett_laws.specs.declared.name.Name.TheVariants.{Compute, ComputeWithin, GoRight, CopyLetter, GoLeft}
use Rattle.bn_bennett_laws.specs.declared.name.Name.TheVariants.{PassLetter, Retrace, RetraceWithin}

-- the program is a machine, and it is in standard form
pub record IsStandardMachine (p : Program) : Type 0 where
  pub machine : IsMachine p
  pub standard : IsStandard p.quints

-- each symbol of the word is among the machine's symbols
abbrev pub IsSpelledBy : Program → List ℕ → Type 0
IsSpelledBy p word = All (λ s. s < p.symbols) word

-- ---- configurations

-- a state and three tapes
abbrev pub configuration : Name → Tape → Tape → Tape → Configuration Name
configuration state one two three = record { state = state; one = one; two = two; three = three }

-- the history tape after steps by the quintuples with these numbers, the last step first: cells 1 and on contain the
-- numbers in the order of the steps, and the head is at the last number, or at cell 0 if there is none
abbrev pub history : List ℕ → Tape
history ns = ahead (length ns) (word_tape (reverse ns))

-- Compute and retrace, between two steps of the machine: its state, its tape, the history, and the output tape.
abbrev pub computing : Moment → List ℕ → Tape → Configuration Name
computing c ns output = configuration (Compute c.state) c.tape (history ns) output

abbrev pub retracing : Moment → List ℕ → Tape → Configuration Name
retracing c ns output = configuration (Retrace c.state) c.tape (history ns) output

-- Within a step by quintuple m from c: its symbol is written at the work tape's head, which has not moved, and the
-- history's head is one cell further right, at a blank.
abbrev pub computing_within : Moment → List ℕ → ℕ → Quint → Tape → Configuration Name
computing_within c ns m q output = configuration (ComputeWithin m) (write c.tape q.write)
    (shift (history ns) Right) output

abbrev pub retracing_within : Moment → List ℕ → ℕ → Quint → Tape → Configuration Name
retracing_within c ns m q output = configuration (RetraceWithin m) (write c.tape q.write)
    (shift (history ns) Right) output

-- Copying from the halted configuration c of the one-tape machine: the heads of the work and output tapes are k cells
-- right of where copying began, and the output tape contains these letters.
abbrev pub copying : Name → Moment → List ℕ → List ℕ → ℕ → Configuration Name
copying state c ns copied k = configuration state (ahead k c.tape) (history ns) (ahead k (word_tape copied))

-- the start: the word on the work tape, history and output blank, all heads at 0
abbrev pub beginning : Program → List ℕ → Configuration Name
beginning p word = computing (start p word) [] blank_tape

-- the end: the word on the work tape again, the history blank, y on the output tape, all heads at 0
abbrev pub ending : Program → List ℕ → List ℕ → Configuration Name
ending p word y = retracing (start p word) [] (word_tape y)

-- ---- each configuration of a run

-- The machine halts at c with the output y, after steps by the quintuples ns, the last step first.
pub record Halts (p : Program) (word : List ℕ) (c : Moment) (ns : List ℕ) (y : List ℕ) : Type 0 where
  pub run : Follows anywhere p ns (start p word) c
  pub final : IsFinal p c
  pub output : IsOutput c.tape y

-- The configuration of the machine's own run from the word that a configuration of the reversible machine represents:
-- one constructor for each kind of state.
pub data Stands (p : Program) (word : List ℕ) (x : Configuration Name) : Type 0 where
  computes : (c : Moment) (ns : List ℕ) → Follows anywhere p ns (start p word) c → x ≡ computing c ns blank_tape
      → Stands p word x
  computes_within : (c d : Moment) (ns : List ℕ) (m : ℕ) (by : GoesBy anywhere p m c d)
      → Follows anywhere p ns (start p word) c → x ≡ computing_within c ns m by.quint blank_tape → Stands p word x
  goes_right : (c : Moment) (ns y : List ℕ) (k : ℕ) → Halts p word c ns y → k ≤ length y
      → x ≡ copying GoRight c ns (take k y) k → Stands p word x
  copies_letter : (c : Moment) (ns y : List ℕ) (k : ℕ) → Halts p word c ns y → k ≤ length y
      → x ≡ copying CopyLetter c ns (take k y) (suc k) → Stands p word x
  goes_left : (c : Moment) (ns y : List ℕ) (k : ℕ) → Halts p word c ns y → k ≤ length y
      → x ≡ copying GoLeft c ns y (suc k) → Stands p word x
  passes_letter : (c : Moment) (ns y : List ℕ) (k : ℕ) → Halts p word c ns y → k ≤ length y
      → x ≡ copying PassLetter c ns y k → Stands p word x
  retraces : (h c : Moment) (hs ns y : List ℕ) → Halts p word h hs y → Follows anywhere p ns (start p word) c
      → x ≡ retracing c ns (word_tape y) → Stands p word x
  retraces_within : (h c d : Moment) (hs ns y : List ℕ) (m : ℕ) (by : GoesBy anywhere p m c d) → Halts p word h hs y
      → Follows anywhere p ns (start p word) c → x ≡ retracing_within c ns m by.quint (word_tape y) → Stands p word x

-- ---- runs

-- a step of the reversible machine within rooms
abbrev pub StepsOf : Program → Rooms → Configuration Name → Configuration Name → Type 0
StepsOf p rooms c d = Steps rooms (bennett p) (final_name p) c d

-- the allowed head positions: on the work tape from -left to right, on the history tape from 0 to the number of
-- steps, on the output tape from 0 to its last cell
abbrev pub rooms_of : Limits → Rooms
rooms_of l = record { one = within l.left l.right; two = within 0 l.steps; three = within 0 l.output }

-- from the word, in these limits, the reversible machine makes n steps to d, and its run ends there in this way
abbrev pub Comes : Program → List ℕ → Limits → ℕ → Configuration Name → Exit → Type 0
Comes p word l n d e = HasExit (rooms_of l) (bennett p) (final_name p) n (beginning p word) d e

-- A head of the reversible machine would leave its tape from the configuration after n steps, when i steps of the
-- machine are done: before or within the machine's next step, or after k letters are copied. The arguments `two` and
-- `three` are the positions of the heads on tapes 2 and 3.
abbrev pub IsAfter : ℕ → ℕ → Name → ℤ → ℤ → Type 0
IsAfter i n (Compute j) two three = (two ≡ pos i) × (n ≡ 2 * i)
IsAfter i n (ComputeWithin m) two three = (two ≡ pos (suc i)) × (n ≡ 2 * i + 1)
IsAfter i n GoRight two three = (two ≡ pos i) × ((k : ℕ) × (three ≡ pos k) × (n ≡ 2 * i + 2 * k + 1))
IsAfter i n _ two three = ⊥

-- The reversible machine's run from the word ends as the outcome says: halted with the output y, stuck in a state at
-- a symbol that no quadruple of that state reads, or where a head would leave its tape. The number i counts the steps
-- of the machine's own run.
abbrev pub EndsAs : Program → List ℕ → Limits → ℕ → Outcome → Type 0
EndsAs p word l i (outcome.Halted y) = All (λ s. s ≢ 0) y
    × Comes p word l (4 * i + 4 * length y + 5) (ending p word y) Finished
EndsAs p word l i (outcome.Stuck state symbol) = (d : Configuration Name) × Comes p word l (2 * i) d Stopped
    × (d.state ≡ Compute state) × (scanned d.one ≡ symbol) × HasNoFirstRead (bennett p) d
EndsAs p word l i (outcome.Outside tape side) = (n : ℕ) × (d : Configuration Name)
    × Comes p word l n d (Leaving tape side) × IsAfter i n d.state d.two.head d.three.head

-- The configuration of the reversible machine when a head of the machine's own run would leave its tape after i
-- steps: before the next step, if the history has no cell for its number; within that step, if its shift would leave
-- the work tape; or after k letters of the output y are copied, with the head of the work tape or of the output tape
-- on the last cell of that tape.
pub data HasNoRoom (p : Program) (word : List ℕ) (l : Limits) (i tape : ℕ) (end : Side) (x : Configuration Name) :
    Type 0 where
  for_number : (c d : Moment) (ns : List ℕ) → Follows anywhere p ns (start p word) c → length ns ≡ i
      → MachineRunsTo anywhere p c d → tape ≡ 2 → end ≡ side.Right → x ≡ computing c ns blank_tape
      → HasNoRoom p word l i tape end x
  for_shift : (c d : Moment) (ns : List ℕ) (m : ℕ) (by : GoesBy anywhere p m c d)
      → Follows anywhere p ns (start p word) c → length ns ≡ i → tape ≡ 1
      → x ≡ computing_within c ns m by.quint blank_tape → HasNoRoom p word l i tape end x
  to_read : (c : Moment) (ns y : List ℕ) (k : ℕ) → Halts p word c ns y → length ns ≡ i → tape ≡ 1 → end ≡ side.Right
      → c.tape.head +ℤ pos k ≡ pos l.right → x ≡ copying GoRight c ns (take k y) k → HasNoRoom p word l i tape end x
  to_write : (c : Moment) (ns y : List ℕ) (k : ℕ) → Halts p word c ns y → length ns ≡ i → tape ≡ 3
      → end ≡ side.Right → k ≡ l.output → x ≡ copying GoRight c ns (take k y) k → HasNoRoom p word l i tape end x
