-- How a reply comes about, and how it is written.
use Rattle.std.specs.Prelude.{◌≡◌, ℕ, List, [], Option, Some, None, Result, Ok, Err, IfOk, OnErr, refl}
use Rattle.std.proofs.Common.{sym, ap, subst, ◌∙◌, append-nil}
use Rattle.bn_circuits.specs.declared.place.Place.{Place}
use Rattle.bn_io.specs.Told.{Grows, GrowsByFront}
use Rattle.bn_reply.specs.Ends as written
use Rattle.bn_reply.specs.Ends.{FinishesReply}
use Rattle.bn_reply.specs.Replying.{IsReplied, IsUnfinished, untold, told_some}
use Rattle.bn_reply.specs.Streams.{AnswerEnds, IsBegun, IsBroken, whole, cut, wanting, unbegun, begun}
use Rattle.bn_table.specs.Reading.{Reads}
use Rattle.bn_table.specs.Rows.{Named}
use Rattle.bn_machine.specs.Standard.{IsStandard}
use Rattle.bn_reply.specs.TableReply.{JudgedReplies, fit, TableReplies, read, WordReplies, spelled}
use Rattle.bn_reply.specs.Words.{IsSpelledBy}
use Rattle.bn_circuits.proofs.WalkLemmas.{hears-nothing}
use Rattle.bn_circuits.specs.Watching.{Hears}
use Rattle.bn_reply.specs.declared.reply.Reply.{Reply}
use Rattle.bn_lists.specs.declared.memory.NoMemory.{NoMemory as WantOfMemory}
use Rattle.bn_reply.specs.declared.status.Status.{Status}
use Rattle.bn_reply.specs.declared.status.Status.TheVariants.{Done}

-- a sink that took nothing
pub grows_nothing : (taken took : Option (List ℕ)) → took ≡ taken → Grows taken took []
grows_nothing None took same = tt
grows_nothing (Some xs) took same = same ∙ ap (λ ys. Some ys) (sym (append-nil xs))

-- nothing was given, and the watch heard a front of an answer's places
pub broken_by : (replies : Status → List ℕ → List Place → Type 0) (taken took : Option (List ℕ))
    (told heard : Option (List Place)) → took ≡ taken →
    IsUnfinished replies told heard → IsBroken replies taken took told heard
broken_by replies taken took told heard same (untold hears) = unbegun (grows_nothing taken took same) hears
broken_by replies taken took told heard same (told_some status text places front rest right split hears) =
    begun (record {
      status = status;
      text = text;
      places = places;
      right = right;
      grows = ([], text, refl, grows_nothing taken took same);
      front = front;
      rest = rest;
      split = split;
      hears = hears;
    })

-- a reply that is given
pub given_ends : (replies : Status → List ℕ → List Place → Type 0) (reply : Result Reply WantOfMemory) (result : Status)
    (taken took : Option (List ℕ)) (before now : ℕ)
    (told heard : Option (List Place)) → IfOk reply (λ r. IsReplied replies r told heard)
    → OnErr reply (IsUnfinished replies told heard) →
    FinishesReply reply result taken took before now → AnswerEnds replies result taken took before now told heard
given_ends replies (Ok r) result taken took before now told heard reply none (written.whole meant grows) =
    whole r.text.items reply.places (subst (λ st. replies st r.text.items reply.places) (sym meant) reply.right) grows
    reply.hears
given_ends replies (Ok r) result taken took before now told heard reply none (written.cut failed rose grows) =
    cut failed rose (record {
      status = r.status;
      text = r.text.items;
      places = reply.places;
      right = reply.right;
      grows = grows;
      front = reply.places;
      rest = [];
      split = sym (append-nil reply.places);
      hears = reply.hears;
    })
given_ends replies (Err e) result taken took before now told heard reply none ends =
    wanting ends.0 (broken_by replies taken took told heard ends.1 none)

-- and of a command that tells a watch nothing
pub silent_ends : (replies : Status → List ℕ → List Place → Type 0) (reply : Result Reply WantOfMemory)
    (result : Status) (taken took : Option (List ℕ)) (before now : ℕ)
    (told : Option (List Place)) → IfOk reply (λ r. replies r.status r.text.items []) →
    FinishesReply reply result taken took before now → AnswerEnds replies result taken took before now told told
silent_ends replies (Ok r) result taken took before now told right ends =
    given_ends replies (Ok r) result taken took before now told told
    (record { places = []; right = right; hears = hears-nothing told }) tt ends
silent_ends replies (Err e) result taken took before now told right ends =
    given_ends replies (Err e) result taken took before now told told tt (untold (hears-nothing told)) ends

-- the reply to the table that the bytes read as
pub read_replies : (tells : Named → Status → List ℕ → List Place → Type 0) (bytes : List ℕ) (t : Named)
    (result : Result Reply WantOfMemory) → Reads bytes t →
    IfOk result (λ r. tells t r.status r.text.items []) → IfOk result
    (λ r. TableReplies tells bytes r.status r.text.items [])
read_replies tells bytes t (Ok r) reads answer = read t reads answer
read_replies tells bytes t (Err e) reads answer = tt

-- the reply to a table whose machine is in standard form
pub fit_replies : (tells : Status → List ℕ → List Place → Type 0) (t : Named) (result : Result Reply WantOfMemory)
    → IsStandard t.machine.quints →
    IfOk result (λ r. tells r.status r.text.items []) → IfOk result
    (λ r. JudgedReplies tells t r.status r.text.items [])
fit_replies tells t (Ok r) standard answer = fit standard answer
fit_replies tells t (Err e) standard answer = tt

-- the reply to the symbols that spell a word
pub spelled_replies : (tells : List ℕ → Status → List ℕ → List Place → Type 0) (t : Named) (word symbols : List ℕ)
    (result : Result Reply WantOfMemory) →
    IsSpelledBy t word symbols → IfOk result (λ r. tells symbols r.status r.text.items []) →
    IfOk result (λ r. WordReplies tells t word r.status r.text.items [])
spelled_replies tells t word symbols (Ok r) is answer = spelled symbols is answer
spelled_replies tells t word symbols (Err e) is answer = tt

-- the one text of an answer, where it is given in pieces after the watch has heard all places
pub text_ends : (replies : Status → List ℕ → List Place → Type 0) (is : List ℕ → Type 0) (text : List ℕ)
    (places : List Place) (result : Status)
    (taken took : Option (List ℕ)) (before now : ℕ) (told heard : Option (List Place)) → is text
    → replies Done text places → Hears told places heard →
    written.TextEnds is result taken took before now → AnswerEnds replies result taken took before now told heard
text_ends replies is text places result taken took before now told heard one right hears ends = by ends
  where
    begun_all : GrowsByFront taken took text → IsBegun replies taken took told heard
    begun_all grows = record {
      status = Done;
      text = text;
      places = places;
      right = right;
      grows = grows;
      front = places;
      rest = [];
      split = sym (append-nil places);
      hears = hears;
    }

    by : written.TextEnds is result taken took before now → AnswerEnds replies result taken took before now told heard
    by (written.given done grows) = whole text places (subst (λ st. replies st text places) (sym done) right)
        (grows text one) hears
    by (written.given_in_part failed rose grows) = cut failed rose (begun_all (grows text one))
    by (written.given_for_want none grows) = wanting none (begun (begun_all (grows text one)))

-- the end of an answer that is one of another command too
module _ (P Q : Status → List ℕ → List Place → Type 0) (each : (status : Status) (text : List ℕ) (places : List Place)
    → P status text places → Q status text places)
    (taken took : Option (List ℕ)) (told heard : Option (List Place)) where
  pub begun_as : IsBegun P taken took told heard → IsBegun Q taken took told heard
  begun_as b = record {
    status = b.status;
    text = b.text;
    places = b.places;
    right = each b.status b.text b.places b.right;
    grows = b.grows;
    front = b.front;
    rest = b.rest;
    split = b.split;
    hears = b.hears;
  }

  pub broken_as : IsBroken P taken took told heard → IsBroken Q taken took told heard
  broken_as (unbegun grows hears) = unbegun grows hears
  broken_as (begun b) = begun (begun_as b)

  pub ends_as : (result : Status) (before now : ℕ) → AnswerEnds P result taken took before now told heard
      → AnswerEnds Q result taken took before now told heard
  ends_as result before now (whole text places right grows hears) =
      whole text places (each result text places right) grows hears
  ends_as result before now (cut failed rose b) = cut failed rose (begun_as b)
  ends_as result before now (wanting none broken) = wanting none (broken_as broken)
