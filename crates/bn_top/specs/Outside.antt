-- How a call of the workbench ends, over the outside as one value.
use Rattle.std.specs.Prelude.{◌≡◌, ◌≢◌, ℕ, ◌≤◌, ◌<◌, List, [], ◌++◌, length, Some, IfSome, ◌⊎◌}
use Rattle.bn_circuits.specs.declared.place.Place.{Place}
use Rattle.bn_io.specs.Faults.{Rose}
use Rattle.bn_words.specs.Requests.{HasNoForm}
use Rattle.bn_reply.specs.declared.limits.TheConstants.{MOST_INPUT_BYTES}
use Rattle.bn_reply.specs.declared.status.Status.{Status}
use Rattle.bn_reply.specs.declared.status.Status.TheVariants.{Usage, Size, ReadFault, WriteFault, NoMemory}
use Rattle.bn_reply.specs.Codes.{IsAnswer}
use Rattle.bn_reply.specs.Outside.{Outside, GaveMore, Gave}
use Rattle.bn_reply.specs.Streams.{read_fault_text}
use Rattle.bn_top.specs.Answers.{Answers}
use Rattle.bn_top.specs.Told.{NeedsNoInput}

-- The answer to these arguments and bytes was given whole.
pub record IsAnswered (words : List (List ℕ)) (bytes : List ℕ) (status : Status) (before after : Outside) : Type 0 where
  pub text : List ℕ
  pub places : List Place
  pub answers : Answers words bytes status text places
  pub gave : Gave before after text places

-- The answer to these arguments and bytes was begun: a prefix of its text was given, and a prefix of its places.
pub record IsBegun (words : List (List ℕ)) (bytes : List ℕ) (before after : Outside) : Type 0 where
  pub status : Status
  pub text : List ℕ
  pub rest : List ℕ
  pub places : List Place
  pub more : List Place
  pub answers : Answers words bytes status (text ++ rest) (places ++ more)
  pub gave : Gave before after text places

-- Reading failed, and the line that says so was given; or writing failed in it, and a prefix of it was given.
abbrev pub ToldReadFault : Status → Outside → Outside → Type 0
ToldReadFault ReadFault before after = Gave before after read_fault_text []
ToldReadFault WriteFault before after =
    Rose before.write_faults after.write_faults
    × ((text : List ℕ) × (rest : List ℕ) × (read_fault_text ≡ text ++ rest) × Gave before after text [])
ToldReadFault _ before after = ⊥

-- Reading failed in this call, and that was reported.
pub record FailsReading (status : Status) (before after : Outside) : Type 0 where
  pub read : Rose before.read_faults after.read_faults
  pub told : ToldReadFault status before after

-- How a call ends that does not fail in reading, where `told` states something of the bytes that are read: writing
-- failed in the answer; memory ran out in it; or it was given whole.
abbrev pub EndsOn : ((List ℕ → Type 0) → Type 0) → List (List ℕ) → Status → Outside → Outside → Type 0
EndsOn told words ReadFault before after = ⊥
EndsOn told words WriteFault before after =
    Rose before.write_faults after.write_faults × told (λ bytes. IsBegun words bytes before after)
EndsOn told words NoMemory before after = told (λ bytes. IsBegun words bytes before after)
EndsOn told words status before after = told (λ bytes. IsAnswered words bytes status before after)

-- How a call ends: it fails in reading, or it ends in this way on the bytes that the source holds.
abbrev pub Ends : List (List ℕ) → Status → Outside → Outside → Type 0
Ends words status before after = FailsReading status before after
    ⊎ EndsOn (IfSome before.left) words status before after

-- The arguments need no input: they have no form, or they ask for a command that reads none.
abbrev pub NeedNoInput : List (List ℕ) → Type 0
NeedNoInput words = HasNoForm words ⊎ NeedsNoInput words

-- If the arguments need input, an answer comes after all bytes were read, or one byte more than the limit if there are
-- more.
pub record ReadsAll (status : Status) (before after : Outside) : Type 0 where
  pub whole : IsAnswer status → status ≢ Usage
      → IfSome before.left (λ bytes. length bytes ≤ MOST_INPUT_BYTES → after.left ≡ Some [])
  pub beyond : IfSome before.left (λ bytes. status ≡ Size → MOST_INPUT_BYTES < length bytes
      → GaveMore before.left after.left MOST_INPUT_BYTES)

-- No count of failures rose, and none is at its last value.
pub record IsWithoutFault (before after : Outside) : Type 0 where
  pub read : Rose before.read_faults after.read_faults → ⊥
  pub write : Rose before.write_faults after.write_faults → ⊥
