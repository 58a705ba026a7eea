-- The reading of bytes as a reversible sequential machine (this project's own profile): its moves in order, with as
-- many states and ports as they name.
use Rattle.std.specs.Prelude.{◌≡◌, ◌≢◌, ℕ, List, Some, None, ◌↔◌, ◌⊎◌, ⊤}
use Rattle.bn_csv.specs.Entries.{entries_of}
use Rattle.bn_rsm.specs.Faults as moves
use Rattle.bn_rsm.specs.Machines.{Machine}
use Rattle.bn_rsm.specs.declared.rsm_move.RsmMove.{RsmMove}
use Rattle.bn_rsm.specs.declared.refusal.RsmRefusal.{RsmRefusal}
use Rattle.bn_rsm.specs.declared.refusal.RsmRefusal.TheVariants as clash
use Rattle.bn_rsm.specs.Entry.{AreReadAs, states_named, lines_named}
use Rattle.bn_rsm.specs.TableFaults.{move_table_fault}
use Rattle.bn_rsm.specs.declared.table_refusal.RsmTableRefusal.{RsmTableRefusal}
use Rattle.bn_rsm.specs.declared.table_refusal.RsmTableRefusal.TheVariants as refusal

-- the bytes are read as this machine
pub record ReadsMoves (bytes : List ℕ) (m : Machine) : Type 0 where
  pub moves : AreReadAs (entries_of bytes) m.moves
  pub states : m.states ≡ states_named m.moves
  pub lines : m.lines ≡ lines_named m.moves

-- The bytes are read as moves that do not form a machine, since two of them leave or lead to the same pair; `said` is
-- the refusal of these moves.
pub record MovesClash (bytes : List ℕ) (said : RsmRefusal) : Type 0 where
  pub found : List RsmMove
  pub reads : AreReadAs (entries_of bytes) found
  pub clash : moves.IsMoveRefusal (states_named found) (lines_named found) found said

-- what a refusal asserts about the bytes: the first fault of their entries, or the first move that leaves or leads to
-- the same pair as an earlier one; out of memory asserts nothing
abbrev pub IsMoveTableRefusal : List ℕ → RsmTableRefusal → Type 0
IsMoveTableRefusal bytes (refusal.SameDomain i j) = MovesClash bytes (clash.SameDomain i j)
IsMoveTableRefusal bytes (refusal.SameRange i j) = MovesClash bytes (clash.SameRange i j)
IsMoveTableRefusal bytes refusal.NoMemory = ⊤
IsMoveTableRefusal bytes (refusal.FieldCount i) = move_table_fault (entries_of bytes) ≡ Some (refusal.FieldCount i)
IsMoveTableRefusal bytes (refusal.Number i j) = move_table_fault (entries_of bytes) ≡ Some (refusal.Number i j)
IsMoveTableRefusal bytes (refusal.TooMany i) = move_table_fault (entries_of bytes) ≡ Some (refusal.TooMany i)
IsMoveTableRefusal bytes refusal.Empty = move_table_fault (entries_of bytes) ≡ Some refusal.Empty

-- entries are read as at most one list of moves
abbrev pub OneReading : Type 0
OneReading = (bytes : List ℕ) (ms ns : List RsmMove) → AreReadAs (entries_of bytes) ms → AreReadAs (entries_of bytes) ns
    → ms ≡ ns

-- entries are read as moves exactly if they have no fault
abbrev pub ReadingOrFault : Type 0
ReadingOrFault = (bytes : List ℕ)
    → (move_table_fault (entries_of bytes) ≡ None) ↔ ((ms : List RsmMove) × AreReadAs (entries_of bytes) ms)

-- bytes are read as a machine, or they have a refusal apart from running out of memory; the next definition: not both
abbrev pub MachineOrRefusal : Type 0
MachineOrRefusal = (bytes : List ℕ)
    → ((m : Machine) × ReadsMoves bytes m) ⊎ ((e : RsmTableRefusal) × (e ≢ refusal.NoMemory)
    × IsMoveTableRefusal bytes e)

abbrev pub MachinesAreNotRefused : Type 0
MachinesAreNotRefused = (bytes : List ℕ) (m : Machine) (e : RsmTableRefusal) → ReadsMoves bytes m
    → IsMoveTableRefusal bytes e
    → e ≡ refusal.NoMemory

-- bytes are read as at most one machine; below, they have at most one refusal, apart from running out of memory
abbrev pub OneMachine : Type 0
OneMachine = (bytes : List ℕ) (m n : Machine) → ReadsMoves bytes m → ReadsMoves bytes n → m ≡ n

abbrev pub OneRefusal : Type 0
OneRefusal = (bytes : List ℕ) (d e : RsmTableRefusal) → IsMoveTableRefusal bytes d → IsMoveTableRefusal bytes e
    → d ≢ refusal.NoMemory
    → e ≢ refusal.NoMemory → d ≡ e
