-- How a command ends that gives its answer to a sink, whole or in pieces, and how one ends that also reads its input
-- from a source. Here `replies` relates an input to the command's answer.
use Rattle.std.specs.Prelude.{◌≡◌, ℕ, ◌≤◌, List, [], ◌∷◌, ◌++◌, length, Option, codes}
use Rattle.bn_circuits.specs.declared.place.Place.{Place}
use Rattle.bn_io.specs.Faults.{Rose}
use Rattle.bn_io.specs.Told.{Grows, GrowsByFront}
use Rattle.bn_circuits.specs.Watching.{Hears}
use Rattle.bn_reply.specs.Ends.{Finishes}
use Rattle.bn_reply.specs.Outside.{Outside, GaveAll, GaveMore, IsLater}
use Rattle.bn_reply.specs.declared.limits.TheConstants.{MOST_INPUT_BYTES}
use Rattle.bn_reply.specs.declared.status.Status.{Status}
use Rattle.bn_reply.specs.declared.status.Status.TheVariants as statuses

-- the lines that need no whole input
abbrev pub size_text : List ℕ
size_text = codes "size: input" ++ 10 ∷ []

abbrev pub read_fault_text : List ℕ
read_fault_text = codes "read fault" ++ 10 ∷ []

-- An answer was begun: the sink received a prefix of its text, and the watch heard a prefix of its places.
pub record IsBegun (replies : Status → List ℕ → List Place → Type 0) (taken took : Option (List ℕ))
    (told heard : Option (List Place)) : Type 0 where
  pub status : Status
  pub text : List ℕ
  pub places : List Place
  pub right : replies status text places
  pub grows : GrowsByFront taken took text
  pub front : List Place
  pub rest : List Place
  pub split : places ≡ front ++ rest
  pub hears : Hears told front heard

-- Nothing was given yet, or an answer was begun.
pub data IsBroken (replies : Status → List ℕ → List Place → Type 0) (taken took : Option (List ℕ))
    (told heard : Option (List Place)) : Type 0 where
  unbegun : Grows taken took [] → Hears told [] heard → IsBroken replies taken took told heard
  begun : IsBegun replies taken took told heard → IsBroken replies taken took told heard

-- How the answer of a command to its input ends: given whole; cut short by the sink; or not given, or not whole, since
-- memory ran out.
pub data AnswerEnds (replies : Status → List ℕ → List Place → Type 0) (result : Status) (taken took : Option (List ℕ))
    (before now : ℕ) (told heard : Option (List Place)) : Type 0 where
  whole : (text : List ℕ) (places : List Place) → replies result text places → Grows taken took text →
      Hears told places heard → AnswerEnds replies result taken took before now told heard
  cut : result ≡ statuses.WriteFault → Rose before now → IsBegun replies taken took told heard →
      AnswerEnds replies result taken took before now told heard
  wanting : result ≡ statuses.NoMemory → IsBroken replies taken took told heard →
      AnswerEnds replies result taken took before now told heard

-- The result of reading an input: all its bytes; more of them than the limit; a failure of the source; or out of
-- memory.
pub data Input : Type 0 where
  Whole : List ℕ → Input
  TooLong : Input
  Failed : Input
  Unread : Input

-- what the source does in that case
abbrev pub Gives : Input → Outside → Outside → Type 0
Gives (Whole bytes) before after = GaveAll before.left after.left bytes × (length bytes ≤ MOST_INPUT_BYTES)
Gives TooLong before after = GaveMore before.left after.left MOST_INPUT_BYTES
Gives Failed before after = Rose before.read_faults after.read_faults
Gives Unread before after = Unit {0}

-- this line was given, with this status, or the sink failed in it; and the watch heard no place
abbrev pub TellsLine : Status → List ℕ → Status → Outside → Outside → Type 0
TellsLine status text result before after =
    Finishes status result before.taken after.taken before.write_faults after.write_faults text
    × Hears before.told [] after.told

-- how the command ends after this result: with its answer to the bytes; with the line that says why they were not
-- read; or before anything was given
abbrev pub EndsAfter : Input → (List ℕ → Status → List ℕ → List Place → Type 0) → Status → Outside → Outside → Type 0
EndsAfter (Whole bytes) replies result before after =
    AnswerEnds (replies bytes) result before.taken after.taken before.write_faults after.write_faults
    before.told after.told
EndsAfter TooLong replies result before after = TellsLine statuses.Size size_text result before after
EndsAfter Failed replies result before after = TellsLine statuses.ReadFault read_fault_text result before after
EndsAfter Unread replies result before after =
    (result ≡ statuses.NoMemory) × Grows before.taken after.taken [] × Hears before.told [] after.told

-- How a command ends that reads its input from a source and gives its answer to a sink: the result of reading, what the
-- source gave for it, what the sink received and the watch heard after it, and that no other failure was counted.
pub record StreamEnds (replies : List ℕ → Status → List ℕ → List Place → Type 0) (result : Status)
    (before after : Outside) : Type 0 where
  pub input : Input
  pub gives : Gives input before after
  pub ends : EndsAfter input replies result before after
  pub later : IsLater (input ≡ Failed) (result ≡ statuses.WriteFault) before after
