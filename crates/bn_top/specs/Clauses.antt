-- How a call of the workbench ends, in one record over the outside; and the same as separate clauses.
use Rattle.std.specs.Prelude.{◌≡◌, ◌≢◌, ℕ, ◌≤◌, ◌<◌, List, [], length, Some, IfSome, ◌⊎◌}
use Rattle.bn_io.specs.Faults.{Rose, CountsUnless}
use Rattle.bn_io.specs.Told.{Grows}
use Rattle.bn_circuits.specs.Watching.{Hears}
use Rattle.bn_words.specs.Requests.{HasNoForm}
use Rattle.bn_reply.specs.Codes.{IsAnswer}
use Rattle.bn_reply.specs.declared.limits.TheConstants.{MOST_INPUT_BYTES}
use Rattle.bn_reply.specs.declared.status.Status.{Status}
use Rattle.bn_reply.specs.declared.status.Status.TheVariants.{Usage, Size, ReadFault, WriteFault, NoMemory}
use Rattle.bn_reply.specs.Outside.{Outside, GaveMore, IsLater}
use Rattle.bn_reply.specs.Streams.{read_fault_text}
use Rattle.bn_top.specs.Told as told
use Rattle.bn_top.specs.Told.{EndsWithoutInput, NeedsNoInput, UsageEnds}
use Rattle.bn_top.specs.Outside.{Ends, EndsOn, IsWithoutFault, NeedNoInput, ReadsAll, FailsReading}

-- The separate clauses, by their names.
pub record ClausesApart (words : List (List ℕ)) (status : Status) (b a : Outside) : Type 0 where
  pub answered : IsAnswer status
      → IfSome b.left (λ bytes. told.IsAnswered words bytes status b.taken a.taken b.told a.told)
  pub complete : (Rose b.read_faults a.read_faults → ⊥) → (Rose b.write_faults a.write_faults → ⊥)
      → IsAnswer status ⊎ (status ≡ NoMemory)
  pub usage_only : status ≡ Usage → HasNoForm words
  pub usage : HasNoForm words → UsageEnds status b.taken a.taken
  pub untold : HasNoForm words → Hears b.told [] a.told
  pub inputless_ends : NeedsNoInput words → EndsWithoutInput words status b.taken a.taken b.told a.told
  pub read : (NeedsNoInput words → ⊥) → IsAnswer status → status ≢ Usage
      → IfSome b.left (λ bytes. length bytes ≤ MOST_INPUT_BYTES → a.left ≡ Some [])
  pub size : (NeedsNoInput words → ⊥) → IfSome b.left (λ bytes. status ≡ Size → MOST_INPUT_BYTES < length bytes
      → GaveMore b.left a.left MOST_INPUT_BYTES)
  pub read_cause : status ≡ ReadFault → Rose b.read_faults a.read_faults
  pub read_fault : status ≡ ReadFault → Grows b.taken a.taken read_fault_text
  pub read_fault_told : status ≡ ReadFault → Hears b.told [] a.told
  pub write_cause : status ≡ WriteFault → Rose b.write_faults a.write_faults
  pub write_fault : status ≡ WriteFault
      → told.IsReadFaultCut b.read_faults a.read_faults b.taken a.taken b.told a.told
      ⊎ IfSome b.left (λ bytes. told.IsBegun words bytes b.taken a.taken b.told a.told)
  pub no_memory : status ≡ NoMemory → IfSome b.left (λ bytes. told.IsBroken words bytes b.taken a.taken b.told a.told)
  pub later_source : CountsUnless (FailsReading status b a) b.read_faults a.read_faults
  pub later_sink : CountsUnless (status ≡ WriteFault) b.write_faults a.write_faults

-- How the call ends; that an answer comes if no device fails and memory suffices; when `usage` comes; how the call ends
-- if the arguments need no input; how much is read otherwise; and that no failure was counted but the one that is
-- reported.
pub record CallEnds (words : List (List ℕ)) (status : Status) (b a : Outside) : Type 0 where
  pub ends : Ends words status b a
  pub complete : IsWithoutFault b a → IsAnswer status ⊎ (status ≡ NoMemory)
  pub usage_only : status ≡ Usage → HasNoForm words
  pub usage : HasNoForm words → (status ≡ Usage) ⊎ (status ≡ WriteFault)
  pub unread_ends : NeedNoInput words → EndsOn (λ claim. claim []) words status b a
  pub read : (NeedsNoInput words → ⊥) → ReadsAll status b a
  pub later : IsLater (FailsReading status b a) (status ≡ WriteFault) b a

-- how the call ends implies each of the separate clauses
abbrev pub EndsGiveClauses : Type 0
EndsGiveClauses = (words : List (List ℕ)) (status : Status) (b a : Outside)
    → CallEnds words status b a → ClausesApart words status b a

-- and they imply it
abbrev pub ClausesGiveEnds : Type 0
ClausesGiveEnds = (words : List (List ℕ)) (status : Status) (b a : Outside)
    → ClausesApart words status b a → CallEnds words status b a
