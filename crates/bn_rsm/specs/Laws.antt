-- The laws of this crate, each a named field. `Laws` is the contract of `rsm_laws`.
use Rattle.bn_rsm.specs.Costs.{loose_cost, move_cost}
use Rattle.bn_rsm.specs.Faults.{IsMoveRefusal}
use Rattle.bn_rsm.specs.Machines.{AreSound}
use Rattle.bn_rsm.specs.declared.refusal.RsmRefusal.{RsmRefusal}
use Rattle.bn_rsm.specs.declared.refusal.RsmRefusal.TheVariants.{NoMemory}
use Rattle.bn_rsm.specs.declared.rsm_move.RsmMove.{RsmMove}
use Rattle.bn_rsm.specs.Reading.{MachineOrRefusal, MachinesAreNotRefused, OneMachine, OneReading, OneRefusal}
use Rattle.bn_rsm.specs.Reading.{ReadingOrFault}
use Rattle.bn_rsm.specs.declared.entry.TheConstants.{MOST_ENTRIES}
use Rattle.std.specs.Prelude.{List, ℕ, ◌*◌, ◌+◌, ◌<◌, ◌^◌, ◌≡◌, ◌≢◌, ◌≤◌, ◌⊎◌}

abbrev pub RefusalsAreOne : Type 0
RefusalsAreOne =
    (states lines : ℕ) (moves : List RsmMove) (a b : RsmRefusal) → IsMoveRefusal states lines moves a
    → IsMoveRefusal states lines moves b → a ≢ NoMemory → b ≢ NoMemory → a ≡ b

abbrev pub SoundMovesAreTaken : Type 0
SoundMovesAreTaken =
    (states lines : ℕ) (moves : List RsmMove) (a : RsmRefusal) → AreSound states lines moves
    → IsMoveRefusal states lines moves a → a ≡ NoMemory

-- moves form a machine, or they have a first fault
abbrev pub MovesAreSoundOrRefused : Type 0
MovesAreSoundOrRefused =
    (states lines : ℕ) (moves : List RsmMove)
    → AreSound states lines moves ⊎ ((a : RsmRefusal) × (a ≢ NoMemory) × IsMoveRefusal states lines moves a)

-- n columns of k rows have n * (k + 1) elements
abbrev pub CostsAreBounded : Type 0
CostsAreBounded =
    (n k q i r o : ℕ) → q < n → i < k → r < n → o < k
    → (move_cost n k q i r o ≤ 4 * (n * (k + 1))) × (loose_cost k q i ≤ 4 * (n * (k + 1)))

-- ---- the laws

pub record Laws : Type 0 where
  -- Moves have at most one refusal, apart from running out of memory.
  pub refusals_are_one : RefusalsAreOne
  -- Moves that form a machine have no refusal, apart from running out of memory.
  pub sound_moves_are_taken : SoundMovesAreTaken
  -- Moves form a machine, or they have a refusal apart from running out of memory.
  pub moves_are_sound_or_refused : MovesAreSoundOrRefused
  -- A move costs at most four times the elements of the bank, and so does the way to a loose output.
  pub costs_are_bounded : CostsAreBounded
  -- A table has at most 2^16 entries.
  pub most_entries_are_stated : MOST_ENTRIES ≡ 2 ^ 16
  -- Bytes are read as at most one list of moves.
  pub bytes_have_one_reading : OneReading
  -- Bytes are read as moves exactly if their entries have no fault.
  pub bytes_have_a_reading_or_a_fault : ReadingOrFault
  -- Bytes are read as a machine, or they have a refusal apart from running out of memory, and not both.
  pub bytes_are_read_or_refused : MachineOrRefusal × MachinesAreNotRefused
  -- Bytes are read as at most one machine, and have at most one refusal, apart from running out of memory.
  pub bytes_have_one_answer : OneMachine × OneRefusal
