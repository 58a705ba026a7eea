-- How writing a text ends.
use Rattle.std.specs.Prelude.{◌≡◌, ℕ, List, Option, Result, Ok, Err}
use Rattle.bn_io.specs.Faults.{Rose}
use Rattle.bn_io.specs.Told.{Grows, GrowsByFront}
use Rattle.bn_lists.specs.declared.memory.NoMemory.{NoMemory as WantOfMemory}
use Rattle.bn_reply.specs.declared.reply.Reply.{Reply}
use Rattle.bn_reply.specs.declared.status.Status.{Status}
use Rattle.bn_reply.specs.declared.status.Status.TheVariants.{Done, WriteFault, NoMemory}

-- A text was written whole, and the status is the intended one; or the sink failed and received a prefix of it.
pub data Finishes (meant result : Status) (old new : Option (List ℕ)) (before now : ℕ) (text : List ℕ) : Type 0 where
  whole : result ≡ meant → Grows old new text → Finishes meant result old new before now text
  cut : result ≡ WriteFault → Rose before now → GrowsByFront old new text →
      Finishes meant result old new before now text

-- how giving a reply ends, and what happens if there is none
abbrev pub FinishesReply : Result Reply WantOfMemory → Status → Option (List ℕ) → Option (List ℕ) → ℕ → ℕ → Type 0
FinishesReply (Ok r) result old new before now = Finishes r.status result old new before now r.text.items
FinishesReply (Err e) result old new before now = (result ≡ NoMemory) × (new ≡ old)

-- How giving a text in pieces ends, where `is` says of a text that it is the one: it was given whole; or the sink
-- failed, or memory ran out, and the sink received a prefix of it.
pub data TextEnds (is : List ℕ → Type 0) (result : Status) (old new : Option (List ℕ)) (before now : ℕ) : Type 0 where
  given : result ≡ Done → ((text : List ℕ) → is text → Grows old new text) → TextEnds is result old new before now
  given_in_part : result ≡ WriteFault → Rose before now → ((text : List ℕ) → is text → GrowsByFront old new text) →
      TextEnds is result old new before now
  given_for_want : result ≡ NoMemory → ((text : List ℕ) → is text → GrowsByFront old new text) →
      TextEnds is result old new before now
