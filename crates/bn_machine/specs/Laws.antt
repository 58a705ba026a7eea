-- The laws of this crate, a named field each. `Laws` is the contract of `machine_laws`.
use Rattle.bn_lists.specs.Runs.{IsFunction, Reaches}
use Rattle.bn_machine.specs.Machine.{IsFinal, IsMachineStuck, MachineRunsTo, Moment, Program}
use Rattle.bn_machine.specs.MachineCalls.{IsTurn}
use Rattle.bn_machine.specs.Outcome.{HasOutcome, Limits, Outcome}
use Rattle.bn_machine.specs.Run.{After, AfterWithin, Ending, Follows, HasEnding, IsOutput}
use Rattle.bn_machine.specs.Steps.{AgreesUpTo}
use Rattle.bn_machine.specs.Tape.{Tape, cell, letter_at}
use Rattle.bn_machine.specs.Window.{IsBetween, Room, Windowed, anywhere, window_of, within}
use Rattle.bn_machine.specs.declared.machine.Turn.{Turn}
use Rattle.bn_machine.specs.declared.tape.TheConstants.Tape.{GREATEST_SIDE}
use Rattle.bn_machine.specs.VerdictLaws.{StandardIsAccepted, VerdictsAreOne}
use Rattle.std.specs.Prelude.{List, length, pos, take, ℕ, ℤ, ◌^◌, ◌≡◌, ◌≤ℤ◌, ◌≤◌}

-- tapes with the same symbols and the same head are the same
abbrev pub TapesAreTheirSymbols : Type 0
TapesAreTheirSymbols = (t u : Tape) → ((p : ℤ) → cell t p ≡ cell u p) → t.head ≡ u.head → t ≡ u

-- a tape has one output and only one
abbrev pub HasOneOutput : Type 0
HasOneOutput =
    ((t : Tape) → (y : List ℕ) × IsOutput t y) × ((t : Tape) (y z : List ℕ) → IsOutput t y → IsOutput t z → y ≡ z)

-- a configuration has at most one successor
abbrev pub StepsAreFunctions : Type 0
StepsAreFunctions = (room : Room) (p : Program) → IsFunction (MachineRunsTo room p)

-- a step in a window has one result, one next state and one next tape
abbrev pub TurnsAreOne : Type 0
TurnsAreOne =
    (p : Program) (a b : Turn) (s : ℕ) (w : Windowed) (t u : ℕ) (v x : Windowed) → IsTurn p a s w t v
    → IsTurn p b s w u x → (a ≡ b) × (t ≡ u) × (v ≡ x)

-- a run within a window is a run on the infinite tape; a run from a word on the infinite tape that makes no more steps
-- than a window has cells on each side is a run within the window
abbrev pub RoomsChangeNothing : Type 0
RoomsChangeNothing =
    ((room : Room) (p : Program) (i : ℕ) (c d : Moment) → Reaches (MachineRunsTo room p) i c d
    → Reaches (MachineRunsTo anywhere p) i c d)
    × ((left right : ℕ) (p : Program) (word : List ℕ) (i : ℕ) (c : Moment) → i ≤ left → i ≤ right → After p word i c
    → AfterWithin (within left right) p word i c)

-- after i steps the head is from -i to i
abbrev pub HeadsStayNear : Type 0
HeadsStayNear =
    (room : Room) (p : Program) (word : List ℕ) (i : ℕ) (c : Moment) → AfterWithin room p word i c
    → IsBetween i i c.tape.head

-- after i steps the word is unchanged at position i and beyond
abbrev pub WordsStandFar : Type 0
WordsStandFar =
    (room : Room) (p : Program) (word : List ℕ) (i : ℕ) (c : Moment) (q : ℤ) → pos i ≤ℤ q → AfterWithin room p word i c
    → cell c.tape q ≡ letter_at word q

-- at most k steps on the first k letters of a word are the steps on the whole word
abbrev pub CutWordsRunAlike : Type 0
CutWordsRunAlike =
    (p : Program) (word : List ℕ) (k i : ℕ) (c : Moment) → i ≤ k → After p (take k word) i c
    → (d : Moment) × After p word i d × AgreesUpTo (pos k) d c

-- configurations that agree up to the head are final together and stuck together
abbrev pub AlikeMomentsEndAlike : Type 0
AlikeMomentsEndAlike =
    (b : ℤ) (p : Program) (c d : Moment) → AgreesUpTo b c d → c.tape.head ≤ℤ b
    → (IsFinal p c → IsFinal p d) × (IsMachineStuck p c → IsMachineStuck p d)

-- a run of i steps has a history of i numbers, and a history of i numbers is that of a run of i steps
abbrev pub RunsHaveHistories : Type 0
RunsHaveHistories =
    ((room : Room) (p : Program) (i : ℕ) (c d : Moment) → Reaches (MachineRunsTo room p) i c d
    → (ns : List ℕ) × (length ns ≡ i) × Follows room p ns c d)
    × ((room : Room) (p : Program) (ns : List ℕ) (c d : Moment) → Follows room p ns c d
    → Reaches (MachineRunsTo room p) (length ns) c d)

-- a run of at most n steps on an infinite tape has exactly one ending
abbrev pub HasOneEnding : Type 0
HasOneEnding =
    ((p : Program) (word : List ℕ) (n : ℕ) → (i : ℕ) × (e : Ending) × HasEnding p word n i e)
    × ((p : Program) (word : List ℕ) (n i j : ℕ) (e f : Ending) → HasEnding p word n i e → HasEnding p word n j f
    → (i ≡ j) × (e ≡ f))

-- a bounded run has exactly one outcome
abbrev pub HasOneOutcome : Type 0
HasOneOutcome =
    ((p : Program) (word : List ℕ) (l : Limits) → (i : ℕ) × (o : Outcome) × HasOutcome p word l i o)
    × ((p : Program) (word : List ℕ) (l : Limits) (i j : ℕ) (o q : Outcome) → HasOutcome p word l i o
    → HasOutcome p word l j q → (i ≡ j) × (o ≡ q))

-- a window of cells shows a tape in one way: one list of cells, and one cell for the head
abbrev pub WindowsHaveOneList : Type 0
WindowsHaveOneList =
    (left right : ℕ) (xs ys : List ℕ) (a b : ℕ) → length xs ≡ length ys
    → (window_of left right xs a).tape ≡ (window_of left right ys b).tape → (xs ≡ ys) × (a ≡ b)

-- the greatest number of cells on either side of a tape
abbrev pub GreatestSideIsStated : Type 0
GreatestSideIsStated = GREATEST_SIDE ≡ 2 ^ 21

-- ---- the laws

pub record Laws : Type 0 where
  -- Tapes with the same symbols and the same head are the same.
  pub tapes_are_their_symbols : TapesAreTheirSymbols
  -- A tape has one output, and only one: the longest word without blanks right of its head.
  pub output_is_one : HasOneOutput
  -- A configuration has at most one successor (Bennett 1973).
  pub steps_are_functions : StepsAreFunctions
  -- The contract of `Machine::step` allows one result, one state and one tape.
  pub turns_are_one : TurnsAreOne
  -- A window changes no run that stays within it, and a run of no more steps than the window has cells on each side
  -- stays within it.
  pub rooms_change_nothing : RoomsChangeNothing
  -- After i steps the head is from -i to i.
  pub heads_stay_near : HeadsStayNear
  -- After i steps the word is unchanged at position i and beyond.
  pub words_stand_far : WordsStandFar
  -- At most k steps on the first k letters of a word are the steps on the whole word.
  pub cut_words_run_alike : CutWordsRunAlike
  -- Configurations that agree up to the head are final together and stuck together.
  pub alike_moments_end_alike : AlikeMomentsEndAlike
  -- A run of i steps is a list of i numbers of quintuples.
  pub runs_have_histories : RunsHaveHistories
  -- A run of at most n steps on an infinite tape has exactly one ending.
  pub ending_is_one : HasOneEnding
  -- A run within limits has exactly one outcome.
  pub outcome_is_one : HasOneOutcome
  -- A window of cells shows a tape in one way.
  pub windows_have_one_list : WindowsHaveOneList
  -- The greatest number of cells on either side of a tape is 2^21.
  pub greatest_side_is_stated : GreatestSideIsStated
  -- The contract of `check` allows at most one refusal other than `NoMemory`.
  pub verdicts_are_one : VerdictsAreOne
  -- The only refusal for quintuples in standard form is `NoMemory`.
  pub standard_is_accepted : StandardIsAccepted
