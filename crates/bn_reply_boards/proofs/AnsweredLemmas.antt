-- Answers of a command by answers of a part of it, and what a watch has heard by then.
use Rattle.std.specs.Prelude.{ℕ, List, [], Option, Result, Ok, Err}
use Rattle.std.proofs.Common.{sym, append-nil}
use Rattle.bn_circuits.specs.declared.place.Place.{Place}
use Rattle.bn_circuits.specs.Watching.{Hears}
use Rattle.bn_reply.specs.Replying.{IsUnfinished, untold, told_some}
use Rattle.bn_reply.specs.declared.reply.Reply.{Reply}
use Rattle.bn_lists.specs.declared.memory.NoMemory.{NoMemory}
use Rattle.bn_reply.specs.declared.status.Status.{Status}
use Rattle.bn_circuits.proofs.WalkLemmas.{hears-nothing}
use Rattle.bn_reply_boards.specs.Running.{IsAnswered}

module _ (R : Status → List ℕ → List Place → Type 0) where
  -- a reply that tells nothing, and none for want of memory before anything was told
  pub answered_reply : (r : Reply) (told : Option (List Place)) → R r.status r.text.items []
      → IsAnswered R (Ok r) told told
  answered_reply r told h = record {
    replied = record { places = []; right = h; hears = hears-nothing told };
    interrupted = tt;
  }

  -- a reply after all was told, and none
  pub answered_told : (r : Reply) (places : List Place) (told heard : Option (List Place))
      → R r.status r.text.items places → Hears told places heard → IsAnswered R (Ok r) told heard
  answered_told r places told heard h hears = record {
    replied = record { places = places; right = h; hears = hears };
    interrupted = tt;
  }

  pub answered_late : (e : NoMemory) (s : Status) (text : List ℕ) (places : List Place)
      (told heard : Option (List Place)) → R s text places → Hears told places heard
      → IsAnswered R (Err e) told heard
  answered_late e s text places told heard h hears =
      record { replied = tt; interrupted = told_some s text places places [] h (sym (append-nil places)) hears }

  module _ (S : Status → List ℕ → List Place → Type 0) (gives : (s : Status) (text : List ℕ) (places : List Place)
      → R s text places → S s text places) where
    unfinished_as : (told heard : Option (List Place)) → IsUnfinished R told heard → IsUnfinished S told heard
    unfinished_as told heard (untold h) = untold h
    unfinished_as told heard (told_some s text places front rest h cut hears) =
        told_some s text places front rest (gives s text places h) cut hears

    -- an answer that is one of another command
    pub answered_as : (result : Result Reply NoMemory) (told heard : Option (List Place))
        → IsAnswered R result told heard → IsAnswered S result told heard
    answered_as (Ok r) told heard h = record {
      replied = record {
        places = h.replied.places;
        right = gives r.status r.text.items h.replied.places h.replied.right;
        hears = h.replied.hears;
      };
      interrupted = tt;
    }
    answered_as (Err e) told heard h = record { replied = tt; interrupted = unfinished_as told heard h.interrupted }
