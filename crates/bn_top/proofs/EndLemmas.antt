-- How the top call ends.
use Rattle.std.specs.Prelude.{◌≡◌, true, false, ℕ, List, [], Option, Some, None, IfSome, refl, ◌⊎◌}
use Rattle.std.proofs.Common.{inl, inr, sym, subst, ◌∙◌}
use Rattle.bn_circuits.specs.declared.place.Place.{Place}
use Rattle.bn_io.specs.Faults.{Rose}
use Rattle.bn_io.specs.Told.{Grows, GrowsByFront}
use Rattle.bn_words.specs.Requests.{Request, HasForm, HasNoForm, reads_input}
use Rattle.bn_reply.specs.Codes.{IsAnswer, IsReplyStatus}
use Rattle.bn_reply.specs.Ends.{Finishes, whole, cut}
use Rattle.bn_reply.specs.Streams as ends_of
use Rattle.bn_reply.specs.Streams.{AnswerEnds}
use Rattle.bn_reply.proofs.ReplyLemmas.{begun_as, broken_as}
use Rattle.bn_reply.specs.declared.status.Status.{Status}
use Rattle.bn_reply.specs.declared.status.Status.TheVariants.{Usage, ReadFault, WriteFault, NoMemory}
use Rattle.bn_circuits.proofs.WalkLemmas.{hears-nothing}
use Rattle.bn_top.specs.Answers.{Answers, no_form, unread, too_long, replied, Replies, usage_text}
use Rattle.bn_top.specs.Told.{EndsWithoutInput, IsAnswered, IsBegun, IsBroken, NeedsNoInput}
use Rattle.bn_top.proofs.AnswerLemmas.{not_both}
use Rattle.bn_top.proofs.Commands.{settled}

-- what follows for the value that is told
pub by_told : (o : Option (List ℕ)) (P Q : List ℕ → Type 0) → ((xs : List ℕ) → P xs → Q xs) → IfSome o P → IfSome o Q
by_told None P Q f h = tt
by_told (Some xs) P Q f h = f xs h

-- what follows for any value, whether or not it is told
pub for_any : (o : Option (List ℕ)) (P : List ℕ → Type 0) → ((xs : List ℕ) → P xs) → IfSome o P
for_any None P all = tt
for_any (Some xs) P all = all xs

-- the status of a reply is that of an answer
pub reply_answers : (status : Status) → IsReplyStatus status → IsAnswer status
reply_answers Usage h = absurd h
reply_answers status h = h

-- a text that is an answer in itself: it is given whole, or cut
module _ (words : List (List ℕ)) (result meant : Status) (taken took : Option (List ℕ)) (told : Option (List Place))
    (before now : ℕ) where
  given : (bytes said text : List ℕ) → ((s : Status) → s ≡ meant → Answers words bytes s said []) → text ≡ said
      → IsAnswer result →
      Finishes meant result taken took before now text → IsAnswered words bytes result taken took told told
  given bytes said text answers is answer (whole was grows) =
      record {
        text = said;
        places = [];
        answers = answers result was;
        grows = subst (Grows taken took) is grows;
        hears = hears-nothing told;
      }
  given bytes said text answers is answer (cut failed rose grows) = absurd (subst IsAnswer failed answer)

  cut_short : (bytes said text : List ℕ) → ((s : Status) → s ≡ meant → Answers words bytes s said []) → text ≡ said →
      IsAnswer meant → result ≡ WriteFault → Finishes meant result taken took before now text
      → IsBegun words bytes taken took told told
  cut_short bytes said text answers is answer failed (whole was grows) =
      let same : meant ≡ WriteFault = sym was ∙ failed in
      absurd (subst IsAnswer same answer)
  cut_short bytes said text answers is answer failed (cut _ rose grows) = record {
    status = meant;
    text = said;
    places = [];
    right = answers meant refl;
    grows = subst (GrowsByFront taken took) is grows;
    front = [];
    rest = [];
    split = refl;
    hears = hears-nothing told;
  }

-- words that have no form
module _ (words : List (List ℕ)) (none : HasNoForm words) (result : Status) (taken took : Option (List ℕ))
    (told : Option (List Place)) where
  pub usage_cut : (before now : ℕ) (text : List ℕ) → text ≡ usage_text
      → Finishes Usage result taken took before now text →
      result ≡ WriteFault → (left : Option (List ℕ)) → IfSome left (λ bytes. IsBegun words bytes taken took told told)
  usage_cut before now text is ends failed None = tt
  usage_cut before now text is ends failed (Some bytes) =
      cut_short words result Usage taken took told before now bytes usage_text text (λ s e. no_form none e refl refl) is
      tt failed ends

  pub usage_answered : (before now : ℕ) (text : List ℕ) → text ≡ usage_text
      → Finishes Usage result taken took before now text →
      IsAnswer result → (left : Option (List ℕ)) → IfSome left (λ bytes. IsAnswered words bytes result taken took told
      told)
  usage_answered before now text is ends answer None = tt
  usage_answered before now text is ends answer (Some bytes) =
      given words result Usage taken took told before now bytes usage_text text (λ s e. no_form none e refl refl) is
      answer ends

-- the status of an answer, by how it ends
module _ (words : List (List ℕ)) (request : Request) (form : HasForm words request) (bytes : List ℕ) (result : Status)
    (taken took : Option (List ℕ))
    (told heard : Option (List Place)) (before now : ℕ) where
  replies : (status : Status) (text : List ℕ) (places : List Place) → Replies request bytes status text places
      → IsReplyStatus status
  replies = (settled words request form bytes).status

  pub never_usage : AnswerEnds (Replies request bytes) result taken took before now told heard → result ≡ Usage → ⊥
  never_usage (ends_of.whole text places right grows hears) is =
      subst IsReplyStatus is (replies result text places right)
  never_usage (ends_of.cut failed rose b) is = cc
  never_usage (ends_of.wanting none broken) is = cc

  pub never_read_fault : AnswerEnds (Replies request bytes) result taken took before now told heard → result ≡ ReadFault
      → ⊥
  never_read_fault (ends_of.whole text places right grows hears) is =
      subst IsReplyStatus is (replies result text places right)
  never_read_fault (ends_of.cut failed rose b) is = cc
  never_read_fault (ends_of.wanting none broken) is = cc

  pub cut_cause : AnswerEnds (Replies request bytes) result taken took before now told heard → result ≡ WriteFault
      → Rose before now
  cut_cause (ends_of.whole text places right grows hears) is =
      absurd (subst IsReplyStatus is (replies result text places right))
  cut_cause (ends_of.cut failed rose b) is = rose
  cut_cause (ends_of.wanting none broken) is = absurd (cc)

  pub is_complete : AnswerEnds (Replies request bytes) result taken took before now told heard →
      (Rose before now → ⊥) → IsAnswer result ⊎ (result ≡ NoMemory)
  is_complete (ends_of.whole text places right grows hears) sound =
      inl (reply_answers result (replies result text places right))
  is_complete (ends_of.cut failed rose b) sound = absurd (sound rose)
  is_complete (ends_of.wanting none broken) sound = inr none

-- how a reply ends, where a reply to the request is an answer
module _ (words : List (List ℕ)) (request : Request) (form : HasForm words request) (bytes : List ℕ) (result : Status)
    (taken took : Option (List ℕ))
    (told heard : Option (List Place)) (before now : ℕ)
    (answers : (status : Status) (text : List ℕ) (places : List Place) → Replies request bytes status text places
    → Answers words bytes status text places) where
  -- no reply has the status of a fault
  no_fault : (status : Status) (text : List ℕ) (places : List Place) → Replies request bytes status text places →
      (status ≡ WriteFault → ⊥) × (status ≡ NoMemory → ⊥)
  no_fault status text places right =
      let reply = (settled words request form bytes).status status text places right in
      (λ e. subst IsReplyStatus e reply, λ e. subst IsReplyStatus e reply)

  whole_end : AnswerEnds (Replies request bytes) result taken took before now told heard → IsAnswer result →
      IsAnswered words bytes result taken took told heard
  whole_end (ends_of.whole text places right grows hears) answer =
      record { text = text; places = places; answers = answers result text places right; grows = grows; hears = hears }
  whole_end (ends_of.cut failed rose b) answer = absurd (subst IsAnswer failed answer)
  whole_end (ends_of.wanting none broken) answer = absurd (subst IsAnswer none answer)

  cut_end : AnswerEnds (Replies request bytes) result taken took before now told heard → result ≡ WriteFault →
      IsBegun words bytes taken took told heard
  cut_end (ends_of.whole text places right grows hears) failed = absurd ((no_fault result text places right).0 failed)
  cut_end (ends_of.cut _ rose b) failed = begun_as (Replies request bytes) (Answers words bytes) answers taken took told
      heard b
  cut_end (ends_of.wanting none broken) failed = absurd (cc)

  wanting_end : AnswerEnds (Replies request bytes) result taken took before now told heard → result ≡ NoMemory →
      IsBroken words bytes taken took told heard
  wanting_end (ends_of.whole text places right grows hears) none = absurd ((no_fault result text places right).1 none)
  wanting_end (ends_of.cut failed rose b) none = absurd (cc)
  wanting_end (ends_of.wanting _ broken) none = broken_as (Replies request bytes) (Answers words bytes) answers taken
      took told heard broken

-- the words don't ask for what needs no input
pub needs_input : (words : List (List ℕ)) (request : Request) → HasForm words request → reads_input request ≡ true
    → NeedsNoInput words → ⊥
needs_input words request form reads h = not_both words request h.request form h.form reads h.unread

-- words that ask for what needs no input
module _ (words : List (List ℕ)) (request : Request) (form : HasForm words request)
    (nothing : reads_input request ≡ false) (result : Status)
    (taken took : Option (List ℕ)) (told heard : Option (List Place)) (before now : ℕ)
    (ends : AnswerEnds (Replies request []) result taken took before now told heard) where
  -- whatever bytes there are
  same_answers : (bytes : List ℕ) (status : Status) (text : List ℕ) (places : List Place)
      → Replies request [] status text places → Answers words bytes status text places
  same_answers bytes status text places right = unread request form nothing right

  pub inputless : EndsWithoutInput words result taken took told heard
  inputless = record {
    answered = whole_end words request form [] result taken took told heard before now (same_answers []) ends;
    cut = cut_end words request form [] result taken took told heard before now (same_answers []) ends;
    broken = wanting_end words request form [] result taken took told heard before now (same_answers []) ends;
    unread = never_read_fault words request form [] result taken took told heard before now ends;
  }

  other_answers : (bytes : List ℕ) (status : Status) (text : List ℕ) (places : List Place)
      → Answers words [] status text places → Answers words bytes status text places
  other_answers bytes status text places (no_form none s t p) = no_form none s t p
  other_answers bytes status text places (unread r is none h) = unread r is none h
  other_answers bytes status text places (too_long r is reads long s t p) =
      absurd (not_both words r request is form reads nothing)
  other_answers bytes status text places (replied r is reads low h) =
      absurd (not_both words r request is form reads nothing)

  answered_with : (bytes : List ℕ) → IsAnswered words [] result taken took told heard
      → IsAnswered words bytes result taken took told heard
  answered_with bytes h =
      record {
        text = h.text;
        places = h.places;
        answers = other_answers bytes result h.text h.places h.answers;
        grows = h.grows;
        hears = h.hears;
      }

  pub inputless_answered : (left : Option (List ℕ)) → IsAnswer result
      → IfSome left (λ bytes. IsAnswered words bytes result taken took told heard)
  inputless_answered left answer =
      for_any left (λ bytes. IsAnswered words bytes result taken took told heard)
      (λ bytes. answered_with bytes (inputless.answered answer))

  pub inputless_cut : (left : Option (List ℕ)) → result ≡ WriteFault
      → IfSome left (λ bytes. IsBegun words bytes taken took told heard)
  inputless_cut left failed = for_any left (λ bytes. IsBegun words bytes taken took told heard)
      (λ bytes. begun_as (Answers words []) (Answers words bytes) (other_answers bytes) taken took told heard
      (inputless.cut failed))

  pub inputless_broken : (left : Option (List ℕ)) → result ≡ NoMemory
      → IfSome left (λ bytes. IsBroken words bytes taken took told heard)
  inputless_broken left none = for_any left (λ bytes. IsBroken words bytes taken took told heard)
      (λ bytes. broken_as (Answers words []) (Answers words bytes) (other_answers bytes) taken took told heard
      (inputless.broken none))
