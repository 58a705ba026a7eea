-- The laws of this crate, each a field of `Laws`.
use Rattle.std.specs.Prelude.{◌≡◌, ◌≢◌, ℕ, ◌+◌, ◌^◌, ◌<◌, ◌≤◌, ◌↔◌, List, [], ◌∷◌, length}
use Rattle.bn_machine.specs.Tape.{Tape}
use Rattle.bn_machine.specs.Machine.{Program, program_of, Moment, IsMachine, IsFinal, IsMachineStuck}
use Rattle.bn_machine.specs.Run.{After}
use Rattle.bn_machine.specs.declared.quint.Quint.{Quint}
use Rattle.bn_machine.specs.declared.quint.Shift.{Shift}
use Rattle.bn_machine.specs.declared.quint.Shift.TheVariants.{Left, Stay, Right}
use Rattle.bn_table.specs.Reading.{Reads}
use Rattle.bn_table.specs.Rows.{FitsTable, IsTable, Named}
use Rattle.bn_machine.specs.Standard.{IsStandard}
use Rattle.bn_standardise.specs.Limits.{most_symbols}
use Rattle.bn_table.specs.declared.entry.TheConstants.{MOST_ENTRIES}
use Rattle.bn_standardise.specs.Standardised.{standardised, numbering_of, IsLoose, TellsApart}
use Rattle.bn_standardise.specs.Refusals.{IsAccepted, IsLooseRefusal, count_of}
use Rattle.bn_standardise.specs.Printed.{standard_lines, standard_table}
use Rattle.bn_standardise.specs.Loose.{Loose, IsWord, HasTail, behind, LooseHalts, Halts}
use Rattle.bn_standardise.specs.declared.name.Name.TheVariants.{Own}
use Rattle.bn_standardise.specs.declared.refusal.LooseRefusal.{LooseRefusal}
use Rattle.bn_standardise.specs.declared.refusal.LooseRefusal.TheVariants.{NoMemory}

-- ---- the list

-- N quintuples and z symbols give N + z + 1 quintuples
abbrev pub CountsRules : Type 0
CountsRules = (p : Program) → IsMachine p → length (standardised p).quints ≡ count_of p

-- the numbering by first appearance gives different numbers to different names of the list
abbrev pub NumbersTellApart : Type 0
NumbersTellApart = (p : Program) → IsMachine p → TellsApart (numbering_of p) p

-- if the list is not too long, it is a machine
abbrev pub IsMachineAgain : Type 0
IsMachineAgain = (p : Program) → IsMachine p → count_of p < 2 ^ 32 → IsMachine (standardised p)

-- the new machine is in standard form
abbrev pub IsInStandardForm : Type 0
IsInStandardForm = (p : Program) → IsLoose p → IsStandard (standardised p).quints

-- if the list is not too long, the new machine fits a table: its states are numbered by first appearance
abbrev pub FitsTableAgain : Type 0
FitsTableAgain =
    (p : Program) → IsMachine p → count_of p ≤ MOST_ENTRIES → p.symbols ≤ most_symbols → FitsTable (standardised p)

-- ---- the text

-- the lines of the list are read as the table of the machine in standard form
abbrev pub TextsAreRead : Type 0
TextsAreRead =
    (t : Named) → IsTable t → IsAccepted t.machine
    → Reads (standard_lines t) (standard_table t) × IsStandard (standard_table t).machine.quints

-- ---- the refusals

-- at most one refusal other than `NoMemory` fits a machine, and none other fits an accepted machine
abbrev pub RefusalsAreOne : Type 0
RefusalsAreOne =
    ((p : Program) (a b : LooseRefusal) → a ≢ NoMemory → b ≢ NoMemory
    → IsLooseRefusal p a → IsLooseRefusal p b → a ≡ b)
    × ((p : Program) (a : LooseRefusal) → IsAccepted p → IsLooseRefusal p a → a ≡ NoMemory)

-- ---- the runs

-- a tape has exactly one longest word without blanks that ends at its head
abbrev pub HasOneTail : Type 0
HasOneTail =
    ((t : Tape) → (d : ℕ) × HasTail t d)
    × ((t : Tape) (d e : ℕ) → HasTail t d → HasTail t e → d ≡ e)

-- If the loose run halts after v steps and d letters end at its head, the new machine halts after v + 2 + d steps, with
-- the same symbols and the head d cells further left.
abbrev pub HaltsBehind : Type 0
HaltsBehind =
    (p : Program) → IsLoose p → (word : List ℕ) → IsWord p.symbols word
    → (v d : ℕ) (c : Moment) → Loose p word v c → IsFinal p c → HasTail c.tape d
    → (e : Moment) × After (standardised p) word (v + 2 + d) e × IsFinal (standardised p) e × (e.tape ≡ behind d c.tape)

-- If the loose run is stuck after v steps, the new machine is stuck after v + 1 steps, in the renumbered state, with
-- the same tape.
abbrev pub SticksAlike : Type 0
SticksAlike =
    (p : Program) → IsLoose p → (word : List ℕ) → IsWord p.symbols word
    → (v : ℕ) (c : Moment) → Loose p word v c → IsMachineStuck p c
    → (e : Moment) × After (standardised p) word (v + 1) e × IsMachineStuck (standardised p) e
    × (e.state ≡ numbering_of p (Own c.state)) × (e.tape ≡ c.tape)

-- the new machine halts on a word exactly if the loose run halts
abbrev pub HaltsTogether : Type 0
HaltsTogether =
    (p : Program) → IsLoose p → (word : List ℕ) → IsWord p.symbols word
    → Halts (standardised p) word ↔ LooseHalts p word

-- the new machine is stuck only one step after the loose run is
abbrev pub SticksTogether : Type 0
SticksTogether =
    (p : Program) → IsLoose p → (word : List ℕ) → IsWord p.symbols word
    → (n : ℕ) (e : Moment) → After (standardised p) word n e → IsMachineStuck (standardised p) e
    → (v : ℕ) × (c : Moment) × (n ≡ v + 1) × Loose p word v c × IsMachineStuck p c

-- ---- an example

-- a quintuple of the example, whose machine replaces 0 (symbol 1) by 1 (symbol 2) and 1 by 0, letter by letter
abbrev turns : ℕ → ℕ → ℕ → Shift → ℕ → Quint
turns state read write shift next = record { state = state; read = read; write = write; shift = shift; next = next }

-- the example machine: three quintuples
abbrev pub inverts : Program
inverts = program_of (turns 0 1 2 Right 0 ∷ turns 0 2 1 Right 0 ∷ turns 0 0 0 Left 1 ∷ []) 2 3

-- the seven quintuples of the example in standard form
abbrev pub InvertsExample : Type 0
InvertsExample =
    standardised inverts ≡ program_of
    (turns 0 0 0 Right 1 ∷ turns 1 1 2 Right 1 ∷ turns 1 2 1 Right 1 ∷ turns 1 0 0 Left 2 ∷ turns 2 1 1 Left 2
    ∷ turns 2 2 2 Left 2 ∷ turns 2 0 0 Stay 3 ∷ [])
    4 3

-- ---- the laws

pub record Laws : Type 0 where
  -- N quintuples and z symbols give N + z + 1 quintuples.
  pub counts_rules : CountsRules
  -- Numbers by first appearance distinguish the states.
  pub numbers_tell_apart : NumbersTellApart
  -- If the list is not too long, it is a machine.
  pub is_machine_again : IsMachineAgain
  -- If the machine passes the first two tests, the new machine is in standard form.
  pub is_in_standard_form : IsInStandardForm
  -- The text of the list is read as the table of the new machine, which is in standard form.
  pub texts_are_read : TextsAreRead
  -- At most one refusal other than `NoMemory` fits a machine, and none other fits an accepted machine.
  pub refusals_are_one : RefusalsAreOne
  -- A tape has exactly one longest word without blanks that ends at its head.
  pub tail_is_one : HasOneTail
  -- If the loose run halts with d letters that end at its head, the new machine halts d + 2 steps later, with the
  -- head d cells further left.
  pub halts_behind : HaltsBehind
  -- If the loose run is stuck, the new machine is stuck one step later, with the same tape.
  pub sticks_alike : SticksAlike
  -- The new machine halts on a word exactly if the loose run halts.
  pub halts_together : HaltsTogether
  -- If the list is not too long, the new machine fits a table: its states are numbered by first appearance.
  pub fits_table_again : FitsTableAgain
  -- The new machine is stuck only one step after the loose run is.
  pub sticks_together : SticksTogether
  -- The seven quintuples in standard form of a machine that inverts each bit of a word.
  pub inverts_example : InvertsExample
