-- The program's representation of a configuration of a run of a machine of quadruples: three tapes in windows, which
-- continue beyond their right ends with the letters of long words. It represents a configuration on tapes without ends.
use Rattle.std.specs.Prelude.{◌≡◌, ◌≢◌, ℕ, ◌+◌, ◌<◌, ◌≤◌, ℤ, pos, ◌+ℤ◌, ◌-ℤ◌, ◌≤ℤ◌, List, ◌++◌, ◌^◌, length}
use Rattle.std.specs.Prelude.{Option, Some, None, All}
use Rattle.bn_base.specs.declared.limits.TheConstants.{MOST_COUNT}
use Rattle.bn_io.specs.Told.{Grows, GrowsByFront}
use Rattle.bn_lists.specs.Runs.{Reaches}
use Rattle.bn_machine.specs.Tape.{Tape, cell, word_tape}
use Rattle.bn_machine.specs.Window.{IsWindowed, Windowed}
use Rattle.bn_quad.specs.Names.{Naming}
use Rattle.bn_quad.specs.Overlap.{IsDeterministic}
use Rattle.bn_quad.specs.Quadruples.{Configuration, GoesBy, IsQuadMachine, Quadruples, QuadruplesRunTo, everywhere}
use Rattle.bn_qtable.specs.Reading.{ReadsQuadruples}
use Rattle.bn_qtable.specs.Rows.{QuadTable, table_of}
use Rattle.bn_network.specs.Starts.{words_on}
use Rattle.bn_reply_machines.specs.Opened.{IsWordOn}
use Rattle.bn_reply_traces.specs.ConfigurationText.{IsConfigurationLineAfter, IsNextQuadruple}
use Rattle.bn_reply_traces.specs.Extents.{IsFirst, IsLast}
use Rattle.bn_reply_traces.specs.MomentText.{AreLines}
use Rattle.bn_reply_traces.specs.Stages.{StandsFor}
use Rattle.bn_reply_traces.specs.declared.extent.Extent.{Extent}
use Rattle.bn_reply_traces.specs.declared.moments.Asked.{Asked}
use Rattle.bn_reply_traces.specs.declared.quad_stage.QuadStage.{QuadStage}
use Rattle.bn_reply_traces.specs.declared.quad_stage.StartWords.{StartWords}
use Rattle.bn_reply_traces.specs.declared.quad_run.QuadRun.{QuadRun}

-- ---- a tape

-- a window that reaches further than n steps to both sides, and represents the tape of a word
pub record IsWide (word : List ℕ) (n : ℕ) (w : Windowed) : Type 0 where
  pub windowed : IsWindowed w
  pub left_wide : n + 2 ≤ w.left
  pub right_wide : n + 2 ≤ w.right
  pub tape : StandsFor w word (word_tape word)

-- one step has led from tape t, whose head was at `left`, to tape u
pub record IsStepped (t u : Tape) (left : ℤ) : Type 0 where
  pub from : t.head ≡ left
  pub near : ((left -ℤ pos 1) ≤ℤ u.head) × (u.head ≤ℤ (left +ℤ pos 1))
  pub beside : (q : ℤ) → q ≢ left → cell u q ≡ cell t q

-- The tape of a configuration that i steps reached in a run of at most n steps, from a word of z symbols: the window
-- represents it, its head is within i cells of 0, and these are the first and the last cell that are shown.
pub record IsTapeStage (z : ℕ) (word : List ℕ) (n i : ℕ) (w : Windowed) (e : Extent) (t : Tape) : Type 0 where
  pub few : length word < 2 ^ 62
  pub letters : All (λ s. s < z) word
  pub windowed : IsWindowed w
  pub left_wide : n + 2 ≤ w.left
  pub right_wide : n + 2 ≤ w.right
  pub tape : StandsFor w word t
  pub near_left : (pos 0 -ℤ pos i) ≤ℤ t.head
  pub near_right : t.head ≤ℤ pos i
  pub below : (q : ℤ) → cell t q < z
  pub first : IsFirst t e.first
  pub last : IsLast t e.last

-- no shift moves the head out of the window
pub record IsClear (w : Windowed) : Type 0 where
  pub left : (pos 1 -ℤ pos w.left) ≤ℤ w.tape.head
  pub right : (w.tape.head +ℤ pos 1) ≤ℤ pos w.right

pub record AreClear (s : QuadStage) : Type 0 where
  pub one : IsClear s.tapes.one
  pub two : IsClear s.tapes.two
  pub three : IsClear s.tapes.three

-- ---- a stage

-- the words on the three tapes consist of symbols of their tapes
pub record AreWordsOn (names : Naming) (words : StartWords) : Type 0 where
  pub one : IsWordOn names.one words.one.now
  pub two : IsWordOn names.two words.two.now
  pub three : IsWordOn names.three words.three.now

-- the configuration at the start
abbrev pub first_of : Quadruples → StartWords → Configuration ℕ
first_of p words = words_on p words.one.now words.two.now words.three.now

-- the stage is that of the configuration c, which i steps reached in a run of at most n steps
pub record IsQuadStage (t : QuadTable) (words : StartWords) (n i : ℕ) (c : Configuration ℕ)
    (s : QuadStage) : Type 0 where
  pub run : Reaches (QuadruplesRunTo everywhere t.machine) i (first_of t.machine words) c
  pub state : c.state ≡ s.state
  pub known : c.state < length t.names.states
  pub one : IsTapeStage (length t.names.one) words.one.now n i s.tapes.one s.extents.one c.one
  pub two : IsTapeStage (length t.names.two) words.two.now n i s.tapes.two s.extents.two c.two
  pub three : IsTapeStage (length t.names.three) words.three.now n i s.tapes.three s.extents.three c.three

-- ---- what is asked

-- the table of the command
abbrev pub asked_table : Asked → QuadTable
asked_table a = table_of a.machine.now a.names.now

-- the machine is that of a table that was read, and deterministic, and the number of steps is not too large
pub record IsAsked (a : Asked) : Type 0 where
  pub bytes : List ℕ
  pub read : ReadsQuadruples bytes (asked_table a)
  pub valid : IsQuadMachine a.machine.now
  pub deterministic : IsDeterministic a.machine.now.rules
  pub few : a.most_steps ≤ MOST_COUNT

-- ---- a run that is told

-- the table of a run
abbrev pub table_in : QuadRun → QuadTable
table_in r = table_of r.machine.now r.names.now

-- the machine is that of a table that was read, and deterministic, with its index and words of its symbols, and the
-- number of steps is not too large
pub record IsQuadRun (r : QuadRun) : Type 0 where
  pub bytes : List ℕ
  pub read : ReadsQuadruples bytes (table_in r)
  pub valid : IsQuadMachine r.machine.now
  pub deterministic : IsDeterministic r.machine.now.rules
  pub indexed : r.indexed ≡ r.machine.now
  pub words : AreWordsOn r.names.now r.words
  pub few : r.most_steps ≤ MOST_COUNT

-- the stage of a run whose configuration i steps reached
abbrev pub IsStageIn : QuadRun → ℕ → Configuration ℕ → QuadStage → Type 0
IsStageIn r i c s = IsQuadStage (table_in r) r.words r.most_steps i c s

-- the line of the configuration of a run after i steps
abbrev pub IsLineIn : QuadRun → ℕ → List ℕ → Type 0
IsLineIn r = IsConfigurationLineAfter (table_in r) (first_of r.machine.now r.words)

-- the first k lines are printed: the sink has received a prefix of them, and the rest is kept
pub record AreQuadTold (r : QuadRun) (old now : Option (List ℕ)) (kept : List ℕ) (k : ℕ) : Type 0 where
  pub given : List ℕ
  pub grown : Grows old now given
  pub lines : AreLines (IsLineIn r) k (given ++ kept)

-- the sink has received a prefix of the first k lines
pub record AreQuadToldInPart (r : QuadRun) (old now : Option (List ℕ)) : Type 0 where
  pub number : ℕ
  pub few : number ≤ r.most_steps + 1
  pub text : List ℕ
  pub lines : AreLines (IsLineIn r) number text
  pub grown : GrowsByFront old now text

-- the stage is that of some configuration
abbrev pub IsSomeStage : QuadRun → ℕ → QuadStage → Type 0
IsSomeStage r i s = (c : Configuration ℕ) × IsStageIn r i c s

-- the result of a step: this quadruple leads to the next stage; or there is none, and the stage stays
abbrev pub IsSteppedTo : QuadTable → StartWords → ℕ → ℕ → Configuration ℕ → QuadStage → Option ℕ → QuadStage → Type 0
IsSteppedTo t words n i c s None u = IsNextQuadruple t.machine c None × (u ≡ s)
IsSteppedTo t words n i c s (Some m) u =
    (d : Configuration ℕ) × GoesBy everywhere t.machine m c d × IsQuadStage t words n (i + 1) d u

-- A run ends at c after this many steps, where this quadruple would be applied next, if there is one: this is the stage
-- then, or the next one if there is one.
abbrev pub IsQuadEndedAt : QuadRun → Configuration ℕ → QuadStage → ℕ → Option ℕ → Type 0
IsQuadEndedAt r c s steps None = (steps ≤ r.most_steps) × IsStageIn r steps c s × IsNextQuadruple r.machine.now c None
IsQuadEndedAt r c s steps (Some m) =
    (steps ≡ r.most_steps) × Reaches (QuadruplesRunTo everywhere r.machine.now) steps (first_of r.machine.now r.words) c
    × IsNextQuadruple r.machine.now c (Some m)
