-- What is required of the answers of a command. A command's answers are a relation of a status, a text, and the places
-- that are reported to a watch.
use Rattle.std.specs.Prelude.{◌≡◌, ℕ, List, []}
use Rattle.bn_circuits.specs.declared.place.Place.{Place}
use Rattle.bn_reply.specs.Codes.{IsReplyStatus}
use Rattle.bn_reply.specs.declared.status.Status.{Status}
use Rattle.bn_reply.specs.declared.status.Status.TheVariants.{Done}

-- two answers agree in the status, the text and the places
pub record AgreeInAll (status other : Status) (text second : List ℕ) (told heard : List Place) : Type 0 where
  pub statuses : status ≡ other
  pub texts : text ≡ second
  pub places : told ≡ heard

-- there is at most one answer
abbrev pub IsOneAnswer : (Status → List ℕ → List Place → Type 0) → Type 0
IsOneAnswer answers = (status other : Status) (text second : List ℕ) (told heard : List Place) →
    answers status text told → answers other second heard → AgreeInAll status other text second told heard

-- there is an answer
abbrev pub HasAnswer : (Status → List ℕ → List Place → Type 0) → Type 0
HasAnswer answers = (status : Status) × (text : List ℕ) × (told : List Place) × answers status text told

-- There is exactly one answer, and its status is that of a reply: not usage, not a failure of the outside, and not out
-- of memory.
pub record IsSettled (answers : Status → List ℕ → List Place → Type 0) : Type 0 where
  pub some : HasAnswer answers
  pub one : IsOneAnswer answers
  pub status : (status : Status) (text : List ℕ) (told : List Place) → answers status text told → IsReplyStatus status

-- the answer is this text, with the status Done, and no place is reported
pub record IsDone (answer : List ℕ) (status : Status) (text : List ℕ) (told : List Place) : Type 0 where
  pub done : status ≡ Done
  pub text_is : text ≡ answer
  pub silent : told ≡ []
