-- The reply of a command, for any answers of a command.
use Rattle.std.specs.Prelude.{◌≡◌, ℕ, List, [], ◌++◌, Option}
use Rattle.bn_circuits.specs.declared.place.Place.{Place}
use Rattle.bn_circuits.specs.Watching.{Hears}
use Rattle.bn_reply.specs.declared.reply.Reply.{Reply}
use Rattle.bn_reply.specs.declared.status.Status.{Status}

-- a reply of this command, and the watch heard its places
pub record IsReplied (replies : Status → List ℕ → List Place → Type 0) (reply : Reply)
    (told heard : Option (List Place)) : Type 0 where
  pub places : List Place
  pub right : replies reply.status reply.text.items places
  pub hears : Hears told places heard

-- no reply, since memory ran out: the watch heard no place, or the first places of the answer
pub data IsUnfinished (replies : Status → List ℕ → List Place → Type 0)
    (told heard : Option (List Place)) : Type 0 where
  untold : Hears told [] heard → IsUnfinished replies told heard
  told_some : (status : Status) (text : List ℕ) (places front rest : List Place) → replies status text places →
      places ≡ front ++ rest → Hears told front heard → IsUnfinished replies told heard
