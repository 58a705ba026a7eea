-- The statements of this crate's laws, each a field of `Laws`.
use Rattle.std.specs.Prelude.{◌≡◌, ◌↔◌, ℕ, ◌+◌, ◌*◌, ◌<◌, ◌≤◌, ℤ, pos, ◌+ℤ◌, List, [], ◌∷◌, length, take, Some}
use Rattle.bn_lists.specs.Runs.{Reaches}
use Rattle.bn_machine.specs.Tape.{scanned, word_tape, blank_tape}
use Rattle.bn_machine.specs.Window.{Room, anywhere, Allows}
use Rattle.bn_machine.specs.declared.quint.Shift.TheVariants.{Left, Stay, Right}
use Rattle.bn_machine.specs.declared.quint.Side.{Side}
use Rattle.bn_machine.specs.Machine.{Program, program_of, Moment, GoesBy, IsFinal, IsMachine, start}
use Rattle.bn_lists.specs.Lists.{nth, IsIn}
use Rattle.bn_machine.specs.Run.{After, Follows, IsOutput}
use Rattle.bn_machine.specs.Outcome.{Limits, Outcome, HasOutcome, Outside}
use Rattle.bn_machine.specs.Standard.{IsStandard}
use Rattle.bn_quad.specs.Quadruples.{Rewrite, Move, Rule, Configuration, Quadruples, QuadruplesRunTo, Rooms, everywhere}
use Rattle.bn_quad.specs.Quadruples.{deeds_of, AreDeedsInRange, initial_of, final_state_of}
use Rattle.bn_quad.specs.Overlap.{IsDeterministic, IsReversible, IsUniform}
use Rattle.bn_bennett_laws.specs.List.{tape_rule, bennett, initial_name, final_name, symbols_of}
use Rattle.bn_bennett_laws.specs.Steps.{Exit, EndsAt, Leaving}
use Rattle.bn_bennett_laws.specs.Renamed.{rename, in_state, KeepsApart}
use Rattle.bn_bennett_laws.specs.Names.{states_in, NumbersStates, IsUniformFrom, Mentions, IsNameOf}
use Rattle.bn_bennett_laws.specs.Stages.{IsStandardMachine, IsSpelledBy, history, computing, computing_within}
use Rattle.bn_bennett_laws.specs.Stages.{retracing, copying, beginning, ending, Stands, StepsOf, rooms_of, Comes}
use Rattle.bn_bennett_laws.specs.Stages.{EndsAs, HasNoRoom}
use Rattle.bn_bennett_laws.specs.declared.name.Name.{Name}
use Rattle.bn_bennett_laws.specs.declared.name.Name.TheVariants.{Compute, ComputeWithin, GoRight, CopyLetter, GoLeft}
use Rattle.bn_bennett_laws.specs.declared.name.Name.TheVariants.{PassLetter, Retrace, RetraceWithin}

-- the room allows position p and the next n positions to its right
abbrev pub AllowsUpTo : Room → ℤ → ℕ → Type 0
AllowsUpTo room p n = (j : ℕ) → j ≤ n → Allows room (p +ℤ pos j)

-- Compute: v steps of the machine from a word, within its room, are 2v steps of the reversible machine from the
-- beginning, and then the history contains the numbers of the v quintuples. If the machine can make a further step,
-- which need not stay in the room, the reversible machine makes the first of the two steps for it.
abbrev pub ComputesTwoSteps : Type 0
ComputesTwoSteps =
    (p : Program) (rooms : Rooms) (word ns : List ℕ) (c : Moment) → Follows rooms.one p ns (start p word) c
    → Allows rooms.one (pos 0) → Allows rooms.three (pos 0) → AllowsUpTo rooms.two (pos 0) (length ns)
    → Reaches (StepsOf p rooms) (2 * length ns) (beginning p word) (computing c ns blank_tape)
    × ((m : ℕ) (d : Moment) (by : GoesBy anywhere p m c d) → Allows rooms.two (pos 0 +ℤ pos (length ns + 1))
    → Reaches (StepsOf p rooms) (2 * length ns + 1) (beginning p word) (computing_within c ns m by.quint blank_tape))

-- A configuration of the one-tape machine is ready for copying: it is final, its head scans a blank, the history ends
-- with the number of the last quintuple, and y is its output, a word of the machine's symbols.
pub record IsReady (p : Program) (c : Moment) (ns y : List ℕ) : Type 0 where
  pub final : IsFinal p c
  pub blank : scanned c.tape ≡ 0
  pub last : scanned (history ns) ≡ length p.quints
  pub output : IsOutput c.tape y
  pub letters : IsSpelledBy p y

-- if a machine in standard form halts on a word of its letters, its last configuration is ready for copying
abbrev pub HaltedIsReady : Type 0
HaltedIsReady = (p : Program) (room : Room) (word ns y : List ℕ) (c : Moment) → IsStandardMachine p
    → IsSpelledBy p word → Follows room p ns (start p word) c → IsFinal p c → IsOutput c.tape y → IsReady p c ns y

-- Copy: from a configuration that is ready, 2k + 1 steps copy the first k letters of y, if there is room for them. If
-- there is room for all L letters and the blank after them, 4L + 5 steps lead to the start of retrace, with y on the
-- output tape and its head at 0.
abbrev pub CopiesOutput : Type 0
CopiesOutput =
    (p : Program) (rooms : Rooms) (c : Moment) (ns y : List ℕ) → IsReady p c ns y → Allows rooms.two (history ns).head
    → ((k : ℕ) → k ≤ length y → AllowsUpTo rooms.one c.tape.head k → AllowsUpTo rooms.three (pos 0) k
    → Reaches (StepsOf p rooms) (2 * k + 1) (computing c ns blank_tape) (copying GoRight c ns (take k y) k))
    × (AllowsUpTo rooms.one c.tape.head (length y + 1) → AllowsUpTo rooms.three (pos 0) (length y + 1)
    → Reaches (StepsOf p rooms) (4 * length y + 5) (computing c ns blank_tape) (retracing c ns (word_tape y)))

-- Retrace: 2v steps of the reversible machine undo v steps of the machine from a word, within its room, with any word
-- y on the output tape.
abbrev pub RetracesTwoSteps : Type 0
RetracesTwoSteps =
    (p : Program) (rooms : Rooms) (word ns y : List ℕ) (c : Moment) → IsStandardMachine p
    → Follows rooms.one p ns (start p word) c → Allows rooms.one (pos 0) → Allows rooms.three (pos 0)
    → AllowsUpTo rooms.two (pos 0) (length ns)
    → Reaches (StepsOf p rooms) (2 * length ns) (retracing c ns (word_tape y)) (ending p word y)

-- the list of a machine in standard form is deterministic, reversible and uniform
abbrev pub ListPassesTests : Type 0
ListPassesTests = (p : Program) → IsStandard p.quints → IsDeterministic (bennett p) × IsReversible (bennett p)
    × IsUniformFrom (initial_name p) (final_name p) (bennett p)

-- the list's first quadruple leaves the initial state, and its last quadruple leads to the final state
abbrev pub ListHasEnds : Type 0
ListHasEnds =
    (p : Program) → 0 < length p.quints
    → ((r : Rule Name) × (nth (bennett p) 1 ≡ Some r) × (r.from ≡ initial_name p))
    × ((r : Rule Name) × (nth (bennett p) (length (bennett p)) ≡ Some r) × (r.to ≡ final_name p))

-- the list has 4N + 2z + 3 quadruples, for N quintuples and z symbols
abbrev pub ListHasLength : Type 0
ListHasLength = (p : Program) → 0 < p.symbols → length (bennett p) ≡ 4 * length p.quints + 2 * p.symbols + 3

-- each symbol of each quadruple is among the symbols of its tape
abbrev pub ListIsInRange : Type 0
ListIsInRange = (p : Program) → IsMachine p → (r : Rule Name) → IsIn (bennett p) r
    → AreDeedsInRange (symbols_of p) (deeds_of r)

-- the states of the list are exactly the names of the states in its quintuples, of its quintuples, and of copying
abbrev pub ListHasNames : Type 0
ListHasNames = (p : Program) → 0 < length p.quints → (name : Name) → IsIn (states_in (bennett p)) name ↔ IsNameOf p name

-- if each of the machine's f states appears in a quintuple, the list has 2f + 2N + 4 states, for N quintuples
abbrev pub ListCountsNames : Type 0
ListCountsNames = (p : Program) → IsMachine p → ((state : ℕ) → state < p.states → Mentions p.quints state)
    → (order : List Name) → NumbersStates (bennett p) order → length order ≡ 2 * p.states + 2 * length p.quints + 4

-- If numbers replace the names, the quadruples over these numbers are deterministic, reversible and uniform, and
-- their initial and final states are the numbers of the list's initial and final names.
abbrev pub NumbersPassTests : Type 0
NumbersPassTests =
    (p : Program) → IsStandardMachine p → (name : ℕ → Name) (rs : List (Rule ℕ)) → rename name rs ≡ bennett p
    → IsDeterministic rs × IsReversible rs × IsUniform rs × (name (initial_of rs) ≡ initial_name p)
    × (name (final_state_of rs) ≡ final_name p)

-- the least machine in standard form, and its thirteen quadruples
abbrev pub least : Program
least = program_of (record { state = 0; read = 0; write = 0; shift = Right; next = 1 }
    ∷ record { state = 1; read = 0; write = 0; shift = Stay; next = 2 } ∷ []) 3 1

abbrev pub LeastIsListed : Type 0
LeastIsListed =
    bennett least
    ≡ (tape_rule (Compute 0) (Rewrite 0 0) (Move Right) (Rewrite 0 0) (ComputeWithin 1)
    ∷ tape_rule (ComputeWithin 1) (Move Right) (Rewrite 0 1) (Move Stay) (Compute 1)
    ∷ tape_rule (Compute 1) (Rewrite 0 0) (Move Right) (Rewrite 0 0) (ComputeWithin 2)
    ∷ tape_rule (ComputeWithin 2) (Move Stay) (Rewrite 0 2) (Move Stay) (Compute 2)
    ∷ tape_rule (Compute 2) (Rewrite 0 0) (Rewrite 2 2) (Rewrite 0 0) GoRight
    ∷ tape_rule GoRight (Move Right) (Move Stay) (Move Right) CopyLetter
    ∷ tape_rule CopyLetter (Rewrite 0 0) (Rewrite 2 2) (Rewrite 0 0) GoLeft
    ∷ tape_rule GoLeft (Move Left) (Move Stay) (Move Left) PassLetter
    ∷ tape_rule PassLetter (Rewrite 0 0) (Rewrite 2 2) (Rewrite 0 0) (Retrace 2)
    ∷ tape_rule (Retrace 2) (Move Stay) (Rewrite 2 0) (Move Stay) (RetraceWithin 2)
    ∷ tape_rule (RetraceWithin 2) (Rewrite 0 0) (Move Left) (Rewrite 0 0) (Retrace 1)
    ∷ tape_rule (Retrace 1) (Move Left) (Rewrite 1 0) (Move Stay) (RetraceWithin 1)
    ∷ tape_rule (RetraceWithin 1) (Rewrite 0 0) (Move Left) (Rewrite 0 0) (Retrace 0)
    ∷ [])

-- the machine halts on the word after v steps with the output y
pub record HaltsAfter (p : Program) (word : List ℕ) (v : ℕ) (y : List ℕ) : Type 0 where
  pub moment : Moment
  pub run : After p word v moment
  pub final : IsFinal p moment
  pub output : IsOutput moment.tape y

-- Bennett's theorem: if the machine halts after v steps with an output of L letters, the reversible machine goes from
-- (word, blank, blank) to (word, blank, output) in 4v + 4L + 5 steps, with all heads at 0 again, and ends in its
-- final state. Conversely, each run of the reversible machine that reaches its final state is such a run.
abbrev pub BennettsTheorem : Type 0
BennettsTheorem =
    (p : Program) (word : List ℕ) → IsStandardMachine p → IsSpelledBy p word
    → ((v : ℕ) (y : List ℕ) → HaltsAfter p word v y
    → Reaches (StepsOf p everywhere) (4 * v + 4 * length y + 5) (beginning p word) (ending p word y))
    × ((n : ℕ) (x : Configuration Name) → Reaches (StepsOf p everywhere) n (beginning p word) x
    → x.state ≡ final_name p → (v : ℕ) × (y : List ℕ) × HaltsAfter p word v y × (n ≡ 4 * v + 4 * length y + 5)
    × (x ≡ ending p word y))

-- Within limits: the machine's own run has this outcome after i steps exactly if the reversible machine's run, in the
-- rooms of the limits, ends as `EndsAs` says for that outcome.
abbrev pub BoundedRunsAgree : Type 0
BoundedRunsAgree = (p : Program) (word : List ℕ) → IsStandardMachine p → IsSpelledBy p word
    → (l : Limits) (i : ℕ) (o : Outcome) → HasOutcome p word l i o ↔ EndsAs p word l i o

-- If a head of the machine's own run would leave its tape, the configuration at which the reversible machine's head
-- leaves that tape is one of those of `HasNoRoom`.
abbrev pub RunsHaveNoRoom : Type 0
RunsHaveNoRoom = (p : Program) (word : List ℕ) → IsStandardMachine p → IsSpelledBy p word
    → (l : Limits) (i tape : ℕ) (end : Side) → HasOutcome p word l i (Outside tape end)
    → (n : ℕ) (x : Configuration Name) → Comes p word l n x (Leaving tape end) → HasNoRoom p word l i tape end x

-- every configuration of a run from a word represents a configuration of the machine's own run, as `Stands` says
abbrev pub EveryMomentStands : Type 0
EveryMomentStands = (p : Program) (word : List ℕ) → IsStandardMachine p → IsSpelledBy p word
    → (rooms : Rooms) (n : ℕ) (x : Configuration Name) → Reaches (StepsOf p rooms) n (beginning p word) x
    → Stands p word x

-- a run within limits makes at most 4 steps for each step for which the history has room, 4 for each cell of the
-- output tape after cell 0, and 5 more
abbrev pub BoundedRunsAreShort : Type 0
BoundedRunsAreShort = (p : Program) (word : List ℕ) → IsStandardMachine p → IsSpelledBy p word
    → (l : Limits) (n : ℕ) (x : Configuration Name) → Reaches (StepsOf p (rooms_of l)) n (beginning p word) x
    → n ≤ 4 * l.steps + 4 * l.output + 5

-- If numbers replace the names and distinct states have distinct names, the quadruple machine over these numbers
-- makes the same runs from each of its states, and they end in the same way.
abbrev pub NumbersRunAlike : Type 0
NumbersRunAlike =
    (p : Program) → IsStandardMachine p → (name : ℕ → Name) (q : Quadruples) → rename name q.rules ≡ bennett p
    → KeepsApart name q.rules → (rooms : Rooms) (c : Configuration ℕ) → IsIn (states_in q.rules) c.state
    → ((n : ℕ) (d : Configuration ℕ) → Reaches (QuadruplesRunTo rooms q) n c d
    → Reaches (StepsOf p rooms) n (in_state name c) (in_state name d))
    × ((n : ℕ) (x : Configuration Name) → Reaches (StepsOf p rooms) n (in_state name c) x → (d : Configuration ℕ)
    × Reaches (QuadruplesRunTo rooms q) n c d × (x ≡ in_state name d) × IsIn (states_in q.rules) d.state)
    × ((e : Exit) → EndsAt rooms q.rules (final_state_of q.rules) c e
    ↔ EndsAt rooms (bennett p) (final_name p) (in_state name c) e)

-- ---- the laws

pub record Laws : Type 0 where
  -- Two steps of the reversible machine compute a step of the machine and record its quintuple's number in the
  -- history (Bennett 1973, compute).
  pub computes_two_steps : ComputesTwoSteps
  -- If a machine in standard form halts, its output can be copied.
  pub halted_is_ready : HaltedIsReady
  -- Copying an output of L letters takes 4L + 5 steps (Bennett 1973, copy).
  pub copies_output : CopiesOutput
  -- Two steps of the reversible machine undo a step of the machine (Bennett 1973, retrace).
  pub retraces_two_steps : RetracesTwoSteps
  -- Bennett's list for a machine in standard form is deterministic, reversible and uniform.
  pub list_passes_tests : ListPassesTests
  -- Bennett's list begins in its initial state and ends in its final state.
  pub list_has_ends : ListHasEnds
  -- For N quintuples and z symbols Bennett's list has 4N + 2z + 3 quadruples.
  pub list_has_length : ListHasLength
  -- Each symbol of each quadruple in the list is among the symbols of its tape.
  pub list_is_in_range : ListIsInRange
  -- The states of Bennett's list are two for each state of a quintuple, two for each quintuple, and the four of
  -- copying.
  pub list_has_names : ListHasNames
  -- For N quintuples and f states that all appear, Bennett's list has 2f + 2N + 4 states.
  pub list_counts_names : ListCountsNames
  -- Bennett's list with numbers in place of names is deterministic, reversible and uniform.
  pub numbers_pass_tests : NumbersPassTests
  -- The list of the least machine in standard form consists of thirteen given quadruples, in order.
  pub least_is_listed : LeastIsListed
  -- Bennett's theorem (1973): from (word, blank, blank) the final state is reached at (word, blank, output) alone,
  -- after 4v + 4L + 5 steps, exactly if the machine halts after v steps with an L-letter output.
  pub bennetts_theorem : BennettsTheorem
  -- Within limits the reversible machine's run ends exactly as the machine's own bounded run: with the output, stuck,
  -- or where a head would leave its tape.
  pub bounded_runs_agree : BoundedRunsAgree
  -- If a head would leave its tape, the reversible machine is before or within the next step of the machine's own
  -- run, or copying its output.
  pub runs_have_no_room : RunsHaveNoRoom
  -- At every step of a run, the tapes contain what the definitions of the three stages say.
  pub every_moment_stands : EveryMomentStands
  -- A run within limits makes at most 4n + 4r + 5 steps, for a history of n steps and an output tape from 0 to r.
  pub bounded_runs_are_short : BoundedRunsAreShort
  -- The quadruple machine with numbers in place of names makes the same runs, which end in the same way.
  pub numbers_run_alike : NumbersRunAlike
