-- The statements of this crate's laws, each a field of `Laws`.
use Rattle.std.specs.Prelude.{◌≡◌, ◌↔◌, ℕ, ◌+◌, ◌*◌, ◌≤◌, List, length}
use Rattle.bn_machine.specs.Machine.{IsMachine, Program}
use Rattle.bn_machine.specs.Outcome.{Limits, Outcome, HasOutcome, Outside}
use Rattle.bn_machine.specs.declared.quint.Side.{Side}
use Rattle.bn_quad.specs.Quadruples.{Configuration, Rooms, everywhere, final_state_of, initial_of}
use Rattle.bn_quad.specs.Calls.{IsUniformMachine}
use Rattle.bn_bennett_laws.specs.Laws.{HaltsAfter}
use Rattle.bn_bennett_laws.specs.List.{initial_name, final_name}
use Rattle.bn_bennett_laws.specs.Renamed.{KeepsApart, in_state}
use Rattle.bn_bennett_laws.specs.Stages.{IsStandardMachine, IsSpelledBy, HasNoRoom, Stands, rooms_of}
use Rattle.bn_bennett_laws.specs.Steps.{Leaving}
use Rattle.bn_qtable.specs.Named.{HasNames}
use Rattle.bn_qtable.specs.Rows as QuadTables
use Rattle.bn_table.specs.Rows.{FitsTable, IsTable, Named}
use Rattle.bn_bennett.specs.Printed.{translation_names}
use Rattle.bn_bennett.specs.Translation.{IsTranslation, Translation, name_of}
use Rattle.bn_bennett.specs.Runs.{CallsEndAs, Comes, MachineEndsAs, Runs, ending_of}

-- a machine has at most one translation
abbrev pub TranslationsAreOne : Type 0
TranslationsAreOne = (p : Program) (t u : Translation) → IsTranslation p t → IsTranslation p u → t ≡ u

-- a machine in standard form within the limits of tables has a translation
abbrev pub TranslationsAreThere : Type 0
TranslationsAreThere = (p : Program) → IsStandardMachine p → FitsTable p → (t : Translation) × IsTranslation p t

-- the machine of a translation is deterministic, reversible and uniform; its initial state is the first quintuple's
-- state in compute, and its final state is the same state in retrace; no two of its states have the same name
abbrev pub TranslationsAreUniform : Type 0
TranslationsAreUniform =
    (p : Program) (t : Translation) → IsStandardMachine p → IsTranslation p t
    → IsUniformMachine t.machine × (name_of t (initial_of t.machine.rules) ≡ initial_name p)
    × (name_of t (final_state_of t.machine.rules) ≡ final_name p) × KeepsApart (name_of t) t.machine.rules

-- Bennett's theorem: if the one-tape machine halts after v steps with an output y of L letters, the machine of its
-- translation goes from (word, blank, blank) to (word, blank, y) in 4v + 4L + 5 steps, with all heads at 0 again, and
-- ends in its final state. Conversely, each of its runs that reaches the final state is such a run.
abbrev pub TranslationsHaltAlike : Type 0
TranslationsHaltAlike =
    (p : Program) (t : Translation) (word : List ℕ) → IsStandardMachine p → IsTranslation p t → IsSpelledBy p word
    → ((v : ℕ) (y : List ℕ) → HaltsAfter p word v y
    → Runs t word everywhere (4 * v + 4 * length y + 5) (ending_of t word y))
    × ((n : ℕ) (c : Configuration ℕ) → Runs t word everywhere n c → c.state ≡ final_state_of t.machine.rules → (v : ℕ)
    × (y : List ℕ) × HaltsAfter p word v y × (n ≡ 4 * v + 4 * length y + 5) × (c ≡ ending_of t word y))

-- within limits the one-tape machine's own run has this outcome after i steps exactly if the run of its translation's
-- machine ends as `MachineEndsAs` says for that outcome
abbrev pub TranslationsEndAlike : Type 0
TranslationsEndAlike =
    (p : Program) (t : Translation) (word : List ℕ) → IsStandardMachine p → IsTranslation p t → IsSpelledBy p word
    → (l : Limits) (i : ℕ) (o : Outcome) → HasOutcome p word l i o ↔ MachineEndsAs t word l i o

-- if a head of the one-tape machine's own run would leave its tape, the configuration at which its translation's
-- machine leaves that tape is one of those of `HasNoRoom`
abbrev pub TranslationsHaveNoRoom : Type 0
TranslationsHaveNoRoom =
    (p : Program) (t : Translation) (word : List ℕ) → IsStandardMachine p → IsTranslation p t → IsSpelledBy p word
    → (l : Limits) (i tape : ℕ) (end : Side) → HasOutcome p word l i (Outside tape end)
    → (n : ℕ) (d : Configuration ℕ) → Comes t word l n d (Leaving tape end)
    → HasNoRoom p word l i tape end (in_state (name_of t) d)

-- the same call by call: exactly if the calls of `step` end as `CallsEndAs` says for that outcome
abbrev pub CallsEndAlike : Type 0
CallsEndAlike =
    (p : Program) (t : Translation) (word : List ℕ) → IsStandardMachine p → IsTranslation p t → IsSpelledBy p word
    → (l : Limits) (i : ℕ) (o : Outcome) → HasOutcome p word l i o ↔ CallsEndAs t word l i o

-- every configuration of the machine's run from a word represents a configuration of the one-tape machine's own run,
-- and a run within limits makes at most 4 steps for each step for which the history has room, 4 for each cell of the
-- output tape after cell 0, and 5 more
abbrev pub TranslationsStand : Type 0
TranslationsStand =
    (p : Program) (t : Translation) (word : List ℕ) → IsStandardMachine p → IsTranslation p t → IsSpelledBy p word
    → ((rooms : Rooms) (n : ℕ) (c : Configuration ℕ) → Runs t word rooms n c → Stands p word (in_state (name_of t) c))
    × ((l : Limits) (n : ℕ) (c : Configuration ℕ) → Runs t word (rooms_of l) n c → n ≤ 4 * l.steps + 4 * l.output + 5)

-- every state and every symbol of a table's translation has a printed name in the form of its kind, with which its
-- quadruples can be written as a table
abbrev pub TranslationsHaveNames : Type 0
TranslationsHaveNames = (t : Named) (s : Translation) → IsMachine t.machine → IsTable t → FitsTable t.machine
    → IsTranslation t.machine s → HasNames s.machine (translation_names t s)

-- a table's translation with its names is a table of quadruples, and therefore it is read back unchanged after it is
-- written
abbrev pub TranslationsAreTables : Type 0
TranslationsAreTables = (t : Named) (s : Translation) → IsMachine t.machine → IsTable t → FitsTable t.machine
    → IsTranslation t.machine s → QuadTables.IsTable (QuadTables.table_of s.machine (translation_names t s))

-- ---- the laws

pub record Laws : Type 0 where
  -- A machine has at most one translation.
  pub translations_are_one : TranslationsAreOne
  -- A machine in standard form within the limits of tables has a translation.
  pub translations_are_there : TranslationsAreThere
  -- The machine of a translation is deterministic, reversible and uniform, begins in the first quintuple's state in
  -- compute, and ends in the same state in retrace.
  pub translations_are_uniform : TranslationsAreUniform
  -- Bennett's theorem (1973) on the machine of a translation: it goes from (word, blank, blank) to (word, blank,
  -- output) in 4v + 4L + 5 steps exactly if the one-tape machine halts after v steps with an L-letter output.
  pub translations_halt_alike : TranslationsHaltAlike
  -- Within limits the run of a translation's machine ends exactly as the one-tape machine's own bounded run.
  pub translations_end_alike : TranslationsEndAlike
  -- Call by call, `QuadMachine::step` ends exactly as the one-tape machine's own bounded run.
  pub calls_end_alike : CallsEndAlike
  -- If a head would leave its tape, the translation's machine is before or within the next step of the one-tape
  -- machine's own run, or copying its output.
  pub translations_have_no_room : TranslationsHaveNoRoom
  -- At every step of a run of the translation's machine, its tapes contain what Bennett's stages say; a run within
  -- limits has a bounded length.
  pub translations_stand : TranslationsStand
  -- Every state and every symbol of a table's translation has a printed name in the form of its kind.
  pub translations_have_names : TranslationsHaveNames
  -- A table's translation with its names is a table of quadruples, and is read back unchanged after it is written.
  pub translations_are_tables : TranslationsAreTables
