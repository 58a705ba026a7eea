-- The statements of this crate's laws, each a field of `Laws`.
use Rattle.std.specs.Prelude.{◌≡◌, ◌≢◌, ◌↔◌, ℕ, ◌+◌, ◌*◌, ◌<◌, ◌≤◌, ⊤, List, [], length, Some, slice_get}
use Rattle.bn_lists.specs.Runs.{Reaches}
use Rattle.bn_machine.specs.Machine.{Program, Moment, IsMachine, IsMachineStuck}
use Rattle.bn_lists.specs.Lists.{nth, IsIn}
use Rattle.bn_machine.specs.Run.{After}
use Rattle.bn_machine.specs.declared.quint.Shift.TheVariants.{Left, Right}
use Rattle.bn_machine.specs.Standard.{IsStandard}
use Rattle.bn_quad.specs.Quadruples.{Deed, Rewrite, Move, Rule, Configuration, Rooms, everywhere, deeds_of}
use Rattle.bn_quad.specs.Quadruples.{AreDeedsInRange, Quadruples, QuadruplesRunTo, initial_of, final_state_of}
use Rattle.bn_machine.specs.Window.{Room, anywhere, within}
use Rattle.bn_bennett_laws.specs.Renamed.{rename, in_state, KeepsApart}
use Rattle.bn_erase_laws.specs.Outcome.{ErasingOutcome, Halted, Stuck, HasErasingOutcome}
use Rattle.bn_quad.specs.Overlap.{IsDeterministic, IsReversible, IsUniform}
use Rattle.bn_bennett_laws.specs.List.{initial_name}
use Rattle.bn_bennett_laws.specs.Steps.{Steps, Exit, Leaving, EndsAt}
use Rattle.bn_machine.specs.declared.quint.Side.{Side}
use Rattle.bn_bennett_laws.specs.Names.{states_in, NumbersStates, IsUniformFrom, Mentions}
use Rattle.bn_bennett_laws.specs.Stages.{IsStandardMachine, IsSpelledBy, beginning, ending}
use Rattle.bn_bennett_laws.specs.Laws.{HaltsAfter, least}
use Rattle.bn_bennett_laws.specs.declared.name.Name.{Name}
use Rattle.bn_bennett_laws.specs.declared.name.Name.TheVariants.{Compute, ComputeWithin, GoLeft, Retrace, RetraceWithin}
use Rattle.bn_erase_laws.specs.declared.name.ErasingName.{ErasingName}
use Rattle.bn_erase_laws.specs.declared.name.ErasingName.TheVariants.{First, Second}
use Rattle.bn_erase_laws.specs.Lists.{JoinsAt}
use Rattle.bn_erase_laws.specs.Erasing.{first_half, second_half, erasing, erasing_initial, erasing_middle}
use Rattle.bn_erase_laws.specs.Erasing.{erasing_final, erasing_symbols, second_name, IsErasingName, IsWord}
use Rattle.bn_erase_laws.specs.Erasing.{erasing_start, erasing_end, ErasingSteps, StepsBackOf}

-- ---- the erasing machine

-- the halves of the erasing machine can be joined
abbrev pub ErasingJoins : Type 0
ErasingJoins = (p q : Program) → IsStandard p.quints → IsStandard q.quints
    → JoinsAt (erasing_middle p) (erasing_initial p) (erasing_final q) (first_half p) (second_half p q)

-- the erasing machine is deterministic, reversible and uniform
abbrev pub ErasingPassesTests : Type 0
ErasingPassesTests =
    (p q : Program) → IsStandardMachine p → IsStandardMachine q
    → IsDeterministic (erasing p q) × IsReversible (erasing p q)
    × IsUniformFrom (erasing_initial p) (erasing_final q) (erasing p q)

-- the erasing machine has the quadruples of both reversible machines
abbrev pub ErasingHasLength : Type 0
ErasingHasLength =
    (p q : Program) → 0 < p.symbols → 0 < q.symbols
    → length (erasing p q) ≡ 4 * (length p.quints + length q.quints) + 2 * (p.symbols + q.symbols) + 6

-- if both machines have the same number of symbols, each symbol of each quadruple is among the symbols of its tape
abbrev pub ErasingIsInRange : Type 0
ErasingIsInRange =
    (p q : Program) → IsMachine p → IsMachine q → p.symbols ≡ q.symbols
    → (r : Rule ErasingName) → IsIn (erasing p q) r → AreDeedsInRange (erasing_symbols p q) (deeds_of r)

-- a quadruple over the names of the erasing machine
abbrev pub quadruple : ErasingName → Deed → Deed → Deed → ErasingName → Rule ErasingName
quadruple from one two three to = record { from = from; one = one; two = two; three = three; to = to }

-- the erasing machine of two least machines has 26 quadruples; here are the first, the first of the second half, and
-- the last
abbrev pub LeastErasingIsListed : Type 0
LeastErasingIsListed =
    (length (erasing least least) ≡ 26)
    × (nth (erasing least least) 1 ≡ Some
    (quadruple (First (Compute 0)) (Rewrite 0 0) (Move Right) (Rewrite 0 0) (First (ComputeWithin 1))))
    × (nth (erasing least least) 14 ≡ Some
    (quadruple (First (Retrace 0)) (Rewrite 0 0) (Move Right) (Rewrite 0 0) (Second (RetraceWithin 1))))
    × (nth (erasing least least) 26 ≡ Some
    (quadruple (Second (ComputeWithin 1)) (Rewrite 0 0) (Move Left) (Rewrite 0 0) (Second (Compute 0))))

-- The second half alone, before its tapes are exchanged: backward from the end with y on the work tape and the word x
-- on the output tape, the second machine's reversible machine reaches its initial state exactly if the second machine
-- halts on y with the output x.
abbrev pub ComparesOutput : Type 0
ComparesOutput =
    (q : Program) (y x : List ℕ) → IsStandardMachine q → IsSpelledBy q y → IsSpelledBy q x → IsWord x
    → ((v : ℕ) → HaltsAfter q y v x
    → Reaches (StepsBackOf q everywhere) (4 * v + 4 * length x + 5) (ending q y x) (beginning q y))
    × ((n : ℕ) (e : Configuration Name) → Reaches (StepsBackOf q everywhere) n (ending q y x) e
    → e.state ≡ initial_name q → (v : ℕ) × HaltsAfter q y v x × (n ≡ 4 * v + 4 * length x + 5) × (e ≡ beginning q y))

-- From x the erasing machine reaches its end with only y left after 4(v + w) + 4(|x| + |y|) + 10 steps, if the first
-- machine halts on x after v steps with the output y and the second halts on y after w steps with the output x.
-- Conversely, each run that reaches its final state is such a run.
abbrev pub ErasesInput : Type 0
ErasesInput =
    (p q : Program) (x : List ℕ) → IsStandardMachine p → IsStandardMachine q → p.symbols ≡ q.symbols → IsSpelledBy p x
    → IsWord x
    → ((v w : ℕ) (y : List ℕ) → HaltsAfter p x v y → HaltsAfter q y w x
    → Reaches (ErasingSteps p q) (4 * (v + w) + 4 * (length x + length y) + 10) (erasing_start p x) (erasing_end q y))
    × ((n : ℕ) (e : Configuration ErasingName) → Reaches (ErasingSteps p q) n (erasing_start p x) e
    → e.state ≡ erasing_final q → (v w : ℕ) × (y : List ℕ) × HaltsAfter p x v y × HaltsAfter q y w x
    × (n ≡ 4 * (v + w) + 4 * (length x + length y) + 10) × (e ≡ erasing_end q y))

-- ---- bounded runs

-- a run of at most n steps has at most one outcome, after one number of steps
abbrev pub OutcomeIsOne : Type 0
OutcomeIsOne =
    (p q : Program) → IsStandardMachine p → IsStandardMachine q → (x : List ℕ) (n i j : ℕ) (o u : ErasingOutcome)
    → HasErasingOutcome p q x n i o → HasErasingOutcome p q x n j u → (i ≡ j) × (o ≡ u)

-- a run of at most n steps has an outcome
abbrev pub OutcomeExists : Type 0
OutcomeExists = (p q : Program) (x : List ℕ) (n : ℕ) → (i : ℕ) × (o : ErasingOutcome) × HasErasingOutcome p q x n i o

-- the run halts after i steps exactly if i is at most n, the work tape is blank, and both machines halt, each on the
-- other's word, after v and w steps that give i
abbrev pub HaltsExactly : Type 0
HaltsExactly =
    (p q : Program) (x : List ℕ) → IsStandardMachine p → IsStandardMachine q → p.symbols ≡ q.symbols → IsSpelledBy p x
    → IsWord x → (n i : ℕ) (work y : List ℕ)
    → HasErasingOutcome p q x n i (Halted work y)
    ↔ ((v w : ℕ) × (i ≤ n) × (work ≡ []) × HaltsAfter p x v y × HaltsAfter q y w x
    × (i ≡ 4 * (v + w) + 4 * (length x + length y) + 10))

-- if the first machine is stuck on x after v steps, the run is stuck after 2v steps, in that state of the first
-- machine
abbrev pub FirstSticks : Type 0
FirstSticks =
    (p q : Program) (x : List ℕ) → IsStandardMachine p → IsStandardMachine q → (v : ℕ) (c : Moment) → After p x v c
    → IsMachineStuck p c → (n : ℕ) → 2 * v ≤ n
    → HasErasingOutcome p q x n (2 * v) (Stuck (First (Compute c.state)))

-- if the first machine halts on x after v steps with the output y and the second is stuck on y after w steps, the run
-- is stuck after 4v + 4|y| + 5 + 2w steps, in that state of the second machine's retrace
abbrev pub SecondSticks : Type 0
SecondSticks =
    (p q : Program) (x : List ℕ) → IsStandardMachine p → IsStandardMachine q → p.symbols ≡ q.symbols → IsSpelledBy p x
    → (v w : ℕ) (y : List ℕ) (c : Moment) → HaltsAfter p x v y → After q y w c → IsMachineStuck q c
    → (n : ℕ) → 4 * v + 4 * length y + 5 + 2 * w ≤ n
    → HasErasingOutcome p q x n (4 * v + 4 * length y + 5 + 2 * w) (Stuck (second_name p q (Retrace c.state)))

-- the first place, counted from 0, at which two words differ: the letters before it are the same; at it the letters
-- differ, or one of the words ends
pub record PartAt (x z : List ℕ) (k : ℕ) : Type 0 where
  pub agree : (j : ℕ) → j < k → slice_get x j ≡ slice_get z j
  pub differ : slice_get x k ≢ slice_get z k

-- two words differ at some place exactly if they are not equal
abbrev pub UnequalWordsPart : Type 0
UnequalWordsPart = (x z : List ℕ) → (x ≢ z) ↔ ((k : ℕ) × PartAt x z k)

-- if the first machine halts on x after v steps with the output y, and the second halts on y after w steps with an
-- output z that differs from x first at place k, the run is stuck after 4v + 4|y| + 5 + 2w + 2k + 2 steps. The second
-- machine's copy stage, backward, begins in one step, passes each of the k letters in two steps, and moves one cell
-- further, to the place of the difference. There it is in the state `GoLeft`, whichever letters differ, and also if
-- one of the words ends.
abbrev pub UnequalOutputsStop : Type 0
UnequalOutputsStop =
    (p q : Program) (x : List ℕ) → IsStandardMachine p → IsStandardMachine q → p.symbols ≡ q.symbols → IsSpelledBy p x
    → IsWord x → (v w : ℕ) (y z : List ℕ) → HaltsAfter p x v y → HaltsAfter q y w z → (k : ℕ) → PartAt x z k
    → (n : ℕ) → 4 * v + 4 * length y + 2 * w + 2 * k + 7 ≤ n
    → HasErasingOutcome p q x n (4 * v + 4 * length y + 2 * w + 2 * k + 7) (Stuck (Second GoLeft))

-- ---- numbers in place of names

-- If numbers replace the names, the quadruples over these numbers are deterministic, reversible and uniform, and
-- their initial and final states are the numbers of the list's initial and final names.
abbrev pub ErasingNumbersPassTests : Type 0
ErasingNumbersPassTests =
    (p q : Program) → IsStandardMachine p → IsStandardMachine q → (name : ℕ → ErasingName) (rs : List (Rule ℕ))
    → rename name rs ≡ erasing p q
    → IsDeterministic rs × IsReversible rs × IsUniform rs × (name (initial_of rs) ≡ erasing_initial p)
    × (name (final_state_of rs) ≡ erasing_final q)

-- If distinct states have distinct numbers, the quadruple machine over these numbers makes the same runs from each of
-- its states, and they end in the same way.
abbrev pub ErasingNumbersRunAlike : Type 0
ErasingNumbersRunAlike =
    (p q : Program) → IsStandardMachine p → IsStandardMachine q → (name : ℕ → ErasingName) (machine : Quadruples)
    → rename name machine.rules ≡ erasing p q → KeepsApart name machine.rules
    → (rooms : Rooms) (c : Configuration ℕ) → IsIn (states_in machine.rules) c.state
    → ((n : ℕ) (d : Configuration ℕ) → Reaches (QuadruplesRunTo rooms machine) n c d
    → Reaches (Steps rooms (erasing p q) (erasing_final q)) n (in_state name c) (in_state name d))
    × ((n : ℕ) (e : Configuration ErasingName)
    → Reaches (Steps rooms (erasing p q) (erasing_final q)) n (in_state name c) e → (d : Configuration ℕ)
    × Reaches (QuadruplesRunTo rooms machine) n c d × (e ≡ in_state name d) × IsIn (states_in machine.rules) d.state)
    × ((e : Exit) → EndsAt rooms machine.rules (final_state_of machine.rules) c e
    ↔ EndsAt rooms (erasing p q) (erasing_final q) (in_state name c) e)

-- the room extends at least n cells to each side
abbrev pub ReachesFar : ℕ → Room → Type 0
ReachesFar n anywhere = ⊤
ReachesFar n (within left right) = (n ≤ left) × (n ≤ right)

-- a run of n steps from the start stays in every window that contains the cells from -n to n on each tape
abbrev pub RunsStayNear : Type 0
RunsStayNear =
    (p q : Program) (x : List ℕ) (n : ℕ) (rooms : Rooms) (d : Configuration ErasingName) → ReachesFar n rooms.one
    → ReachesFar n rooms.two → ReachesFar n rooms.three
    → Reaches (ErasingSteps p q) n (erasing_start p x) d
    → Reaches (Steps rooms (erasing p q) (erasing_final q)) n (erasing_start p x) d

-- ---- names

-- the states of the list are exactly the names of the first machine's list and those of the second's, except its
-- final state
abbrev pub ErasingHasNames : Type 0
ErasingHasNames = (p q : Program) → IsMachine p → IsMachine q → (name : ErasingName)
    → IsIn (states_in (erasing p q)) name ↔ IsErasingName p q name

-- if each state of both machines appears in a quintuple, the list has one state fewer than both lists together
abbrev pub ErasingCountsNames : Type 0
ErasingCountsNames =
    (p q : Program) → IsMachine p → IsMachine q → ((state : ℕ) → state < p.states → Mentions p.quints state)
    → ((state : ℕ) → state < q.states → Mentions q.quints state)
    → (order : List ErasingName) → NumbersStates (erasing p q) order
    → length order ≡ 2 * (p.states + q.states) + 2 * (length p.quints + length q.quints) + 7

-- Within n steps no head leaves such a window: after i steps, fewer than n, the run can continue, halt or be stuck,
-- but no head can leave.
abbrev pub NoHeadLeaves : Type 0
NoHeadLeaves =
    (p q : Program) → IsStandardMachine p → IsStandardMachine q
    → (x : List ℕ) (n i : ℕ) (rooms : Rooms) (c : Configuration ErasingName) → ReachesFar n rooms.one
    → ReachesFar n rooms.two → ReachesFar n rooms.three → i < n
    → Reaches (Steps rooms (erasing p q) (erasing_final q)) i (erasing_start p x) c → (tape : ℕ) (side : Side)
    → EndsAt rooms (erasing p q) (erasing_final q) c (Leaving tape side) → ⊥

-- the two least machines, from the empty word: the premises can be satisfied, and 26 steps lead to the end
abbrev pub LeastErases : Type 0
LeastErases = IsStandardMachine least × HaltsAfter least [] 2 []
    × Reaches (ErasingSteps least least) 26 (erasing_start least []) (erasing_end least [])
