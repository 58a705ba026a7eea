-- How a call ends, over the outside as one thing, and clause by clause.
use Rattle.std.specs.Prelude.{◌≡◌, ℕ, List, [], ◌∷◌, ◌++◌, IfSome, ◌⊎◌, refl}
use Rattle.std.proofs.Common.{inl, inr, sym, subst}
use Rattle.bn_circuits.specs.declared.place.Place.{Place}
use Rattle.bn_io.specs.Faults.{Rose}
use Rattle.bn_io.specs.Told.{Grows, GrowsByFront}
use Rattle.bn_circuits.specs.Watching.{Hears}
use Rattle.bn_words.specs.Requests.{HasForm, HasNoForm, Request}
use Rattle.bn_words.specs.Laws.{WordsHaveAFormOrNone}
use Rattle.bn_reply.specs.Answering.{HasAnswer}
use Rattle.bn_reply.specs.Codes.{IsAnswer}
use Rattle.bn_reply.specs.declared.status.Status.{Status}
use Rattle.bn_reply.specs.declared.status.Status.TheVariants.{Usage, ReadFault, WriteFault, NoMemory}
use Rattle.bn_top.specs.Answers.{Answers, no_form, unread, too_long, replied, usage_text}
use Rattle.bn_top.specs.Laws.{RequestsAreAnswered}
use Rattle.bn_top.specs.Told as old
use Rattle.bn_top.specs.Told.{EndsWithoutInput, UsageEnds}
use Rattle.bn_top.proofs.EndLemmas.{by_told}
use Rattle.bn_reply.specs.Outside.{Outside}
use Rattle.bn_reply.specs.Streams.{unbegun, begun}
use Rattle.bn_top.specs.Outside.{Ends, EndsOn, FailsReading, IsAnswered, IsBegun, NeedNoInput, ToldReadFault}
use Rattle.bn_top.specs.Clauses.{CallEnds, ClausesApart}

module _ (words : List (List ℕ)) (b a : Outside) where
  -- ---- what was given, in both forms

  old_answered : (bytes : List ℕ) (status : Status) → IsAnswered words bytes status b a →
      old.IsAnswered words bytes status b.taken a.taken b.told a.told
  old_answered bytes status h = record {
    text = h.text;
    places = h.places;
    answers = h.answers;
    grows = h.gave.grows;
    hears = h.gave.hears;
  }

  new_answered : (bytes : List ℕ) (status : Status) → old.IsAnswered words bytes status b.taken a.taken b.told a.told →
      IsAnswered words bytes status b a
  new_answered bytes status h =
      record {
        text = h.text;
        places = h.places;
        answers = h.answers;
        gave = record { grows = h.grows; hears = h.hears };
      }

  old_begun : (bytes : List ℕ) → IsBegun words bytes b a → old.IsBegun words bytes b.taken a.taken b.told a.told
  old_begun bytes h = record {
    status = h.status;
    text = h.text ++ h.rest;
    places = h.places ++ h.more;
    right = h.answers;
    grows = (h.text, h.rest, refl, h.gave.grows);
    front = h.places;
    rest = h.more;
    split = refl;
    hears = h.gave.hears;
  }

  new_begun : (bytes : List ℕ) → old.IsBegun words bytes b.taken a.taken b.told a.told → IsBegun words bytes b a
  new_begun bytes h = record {
    status = h.status;
    text = h.grows.0;
    rest = h.grows.1;
    places = h.front;
    more = h.rest;
    answers = subst (λ x. Answers words bytes h.status x (h.front ++ h.rest)) h.grows.2
        (subst (λ x. Answers words bytes h.status h.text x) h.split h.right);
    gave = record { grows = h.grows.3; hears = h.hears };
  }

  -- ---- by the status

  module _ (told : (List ℕ → Type 0) → Type 0) where
    ends_whole : (status : Status) → IsAnswer status → EndsOn told words status b a
        → told (λ bytes. IsAnswered words bytes status b a)
    ends_whole ReadFault is h = absurd is
    ends_whole WriteFault is h = absurd is
    ends_whole NoMemory is h = absurd is
    ends_whole status is h = h

  told_no_answer : (status : Status) → IsAnswer status → ToldReadFault status b a → ⊥
  told_no_answer ReadFault is h = is
  told_no_answer WriteFault is h = is
  told_no_answer status is h = h

  -- ---- words without a form

  -- the answer to them
  usage_is : HasNoForm words → (bytes : List ℕ) (status : Status) (text : List ℕ) (places : List Place)
      → Answers words bytes status text places →
      (text ≡ usage_text) × (places ≡ [])
  usage_is none bytes status text places (no_form _ s t p) = (t, p)
  usage_is none bytes status text places (unread r form n h) = absurd (none r form)
  usage_is none bytes status text places (too_long r form n long s t p) = absurd (none r form)
  usage_is none bytes status text places (replied r form n low h) = absurd (none r form)

  none_left : (xs ys : List Place) → xs ++ ys ≡ [] → xs ≡ []
  none_left [] ys e = refl
  none_left (x ∷ xs) ys e = absurd (cc)

  usage_answered : HasNoForm words → (status : Status) → IsAnswered words [] status b a
      → Grows b.taken a.taken usage_text × Hears b.told [] a.told
  usage_answered none status h =
      let is = usage_is none [] status h.text h.places h.answers in
      (subst (Grows b.taken a.taken) is.0 h.gave.grows, subst (λ ps. Hears b.told ps a.told) is.1 h.gave.hears)

  usage_begun : HasNoForm words → IsBegun words [] b a → GrowsByFront b.taken a.taken usage_text
      × Hears b.told [] a.told
  usage_begun none h =
      let is = usage_is none [] h.status (h.text ++ h.rest) (h.places ++ h.more) h.answers in (
        (h.text, h.rest, sym is.0, h.gave.grows),
        subst (λ ps. Hears b.told ps a.told) (none_left h.places h.more is.1) h.gave.hears,
      )

  abbrev only : (List ℕ → Type 0) → Type 0
  only claim = claim []

  usage_ends : HasNoForm words → (status : Status) → (status ≡ Usage) ⊎ (status ≡ WriteFault)
      → EndsOn only words status b a →
      UsageEnds status b.taken a.taken × Hears b.told [] a.told
  usage_ends none status (inl is) h =
      let h' : EndsOn only words Usage b a = subst (λ s. EndsOn only words s b a) is h in
      subst (λ s. UsageEnds s b.taken a.taken × Hears b.told [] a.told) (sym is) (usage_answered none Usage h')
  usage_ends none status (inr is) h =
      let h' : EndsOn only words WriteFault b a = subst (λ s. EndsOn only words s b a) is h in
      subst (λ s. UsageEnds s b.taken a.taken × Hears b.told [] a.told) (sym is) (usage_begun none h'.1)

  -- ---- each clause

  as_answered : (status : Status) → IsAnswer status → Ends words status b a →
      IfSome b.left (λ bytes. old.IsAnswered words bytes status b.taken a.taken b.told a.told)
  as_answered status is (inl h) = absurd (told_no_answer status is h.told)
  as_answered status is (inr h) =
      by_told b.left (λ bytes. IsAnswered words bytes status b a)
      (λ bytes. old.IsAnswered words bytes status b.taken a.taken b.told a.told)
      (λ bytes. old_answered bytes status) (ends_whole (IfSome b.left) status is h)

  as_read_fault : (status : Status) → status ≡ ReadFault → Ends words status b a → FailsReading ReadFault b a
  as_read_fault status is (inl h) = subst (λ s. FailsReading s b a) is h
  as_read_fault status is (inr h) = absurd (subst (λ s. EndsOn (IfSome b.left) words s b a) is h)

  as_write_fault : Ends words WriteFault b a →
      old.IsReadFaultCut b.read_faults a.read_faults b.taken a.taken b.told a.told
      ⊎ IfSome b.left (λ bytes. old.IsBegun words bytes b.taken a.taken b.told a.told)
  as_write_fault (inl h) =
      let t = h.told.1 in
      inl (record { source = h.read; grows = (t.0, t.1, t.2, t.3.grows); hears = t.3.hears })
  as_write_fault (inr h) =
      inr (by_told b.left (λ bytes. IsBegun words bytes b a) (λ bytes. old.IsBegun words bytes b.taken a.taken b.told
      a.told) old_begun h.1)

  as_write_cause : Ends words WriteFault b a → Rose b.write_faults a.write_faults
  as_write_cause (inl h) = h.told.0
  as_write_cause (inr h) = h.0

  as_no_memory : Ends words NoMemory b a → IfSome b.left (λ bytes. old.IsBroken words bytes b.taken a.taken b.told
      a.told)
  as_no_memory (inl h) = absurd h.told
  as_no_memory (inr h) =
      by_told b.left (λ bytes. IsBegun words bytes b a) (λ bytes. old.IsBroken words bytes b.taken a.taken b.told
      a.told)
      (λ bytes g. begun (old_begun bytes g)) h

  as_inputless : (status : Status) → EndsOn only words status b a
      → EndsWithoutInput words status b.taken a.taken b.told a.told
  as_inputless status h = record {
    answered = λ is. old_answered [] status (ends_whole only status is h);
    cut = λ is. by_cut is (subst (λ s. EndsOn only words s b a) is h);
    broken = λ is. by_broken is (subst (λ s. EndsOn only words s b a) is h);
    unread = λ is. subst (λ s. EndsOn only words s b a) is h;
  }
    where
      by_cut : status ≡ WriteFault → EndsOn only words WriteFault b a
          → old.IsBegun words [] b.taken a.taken b.told a.told
      by_cut is g = old_begun [] g.1

      by_broken : status ≡ NoMemory → EndsOn only words NoMemory b a
          → old.IsBroken words [] b.taken a.taken b.told a.told
      by_broken is g = begun (old_begun [] g)

  pub ends-give_clauses : (status : Status) → CallEnds words status b a → ClausesApart words status b a
  ends-give_clauses status h = record {
    answered = λ is. as_answered status is h.ends;
    complete = λ read write. h.complete (record { read = read; write = write });
    usage_only = h.usage_only;
    usage = λ none. (usage_ends none status (h.usage none) (h.unread_ends (inl none))).0;
    untold = λ none. (usage_ends none status (h.usage none) (h.unread_ends (inl none))).1;
    inputless_ends = λ none. as_inputless status (h.unread_ends (inr none));
    read = λ needs. (h.read needs).whole;
    size = λ needs. (h.read needs).beyond;
    read_cause = λ is. (as_read_fault status is h.ends).read;
    read_fault = λ is. (as_read_fault status is h.ends).told.grows;
    read_fault_told = λ is. (as_read_fault status is h.ends).told.hears;
    write_cause = λ is. as_write_cause (subst (λ s. Ends words s b a) is h.ends);
    write_fault = λ is. as_write_fault (subst (λ s. Ends words s b a) is h.ends);
    no_memory = λ is. as_no_memory (subst (λ s. Ends words s b a) is h.ends);
    later_source = h.later.read;
    later_sink = h.later.write;
  }

  -- ---- and back

  module _ (forms : WordsHaveAFormOrNone) (some : RequestsAreAnswered) where
    some_answer : (bytes : List ℕ) → HasAnswer (Answers words bytes)
    some_answer bytes = by (forms words)
      where
        by : ((r : Request) × HasForm words r) ⊎ HasNoForm words → HasAnswer (Answers words bytes)
        by (inl r) = some words r.0 bytes r.1
        by (inr none) = (Usage, usage_text, [], no_form none refl refl refl)

    broken_begun : (bytes : List ℕ) → old.IsBroken words bytes b.taken a.taken b.told a.told → IsBegun words bytes b a
    broken_begun bytes (begun h) = new_begun bytes h
    broken_begun bytes (unbegun grows hears) =
        let answer = some_answer bytes in
        record {
          status = answer.0;
          text = [];
          rest = answer.1;
          places = [];
          more = answer.2;
          answers = answer.3;
          gave = record { grows = grows; hears = hears };
        }

    of_write : Rose b.write_faults a.write_faults →
        old.IsReadFaultCut b.read_faults a.read_faults b.taken a.taken b.told a.told
        ⊎ IfSome b.left (λ bytes. old.IsBegun words bytes b.taken a.taken b.told a.told) → Ends words WriteFault b a
    of_write rose (inl h) =
        let g = h.grows in
        inl (record { read = h.source; told = (rose, (g.0, g.1, g.2, record { grows = g.3; hears = h.hears })) })
    of_write rose (inr h) =
        inr (
          rose,
          by_told b.left (λ bytes. old.IsBegun words bytes b.taken a.taken b.told a.told)
              (λ bytes. IsBegun words bytes b a) new_begun h,
        )

    of_ends : (status : Status) → ClausesApart words status b a → Ends words status b a
    of_ends ReadFault h =
        inl (record {
          read = h.read_cause refl;
          told = record {
            grows = h.read_fault refl;
            hears = h.read_fault_told refl;
          };
        })
    of_ends WriteFault h = of_write (h.write_cause refl) (h.write_fault refl)
    of_ends NoMemory h =
        inr (by_told b.left (λ bytes. old.IsBroken words bytes b.taken a.taken b.told a.told)
        (λ bytes. IsBegun words bytes b a) broken_begun (h.no_memory refl))
    of_ends status h =
        inr (by_told b.left (λ bytes. old.IsAnswered words bytes status b.taken a.taken b.told a.told)
        (λ bytes. IsAnswered words bytes status b a)
        (λ bytes. new_answered bytes status) (h.answered tt))

    of_usage : (status : Status) → UsageEnds status b.taken a.taken → (status ≡ Usage) ⊎ (status ≡ WriteFault)
    of_usage Usage h = inl refl
    of_usage WriteFault h = inr refl
    of_usage status h = absurd h

    of_usage_ends : (status : Status) → HasNoForm words → (status ≡ WriteFault → Rose b.write_faults a.write_faults) →
        UsageEnds status b.taken a.taken → Hears b.told [] a.told → EndsOn only words status b a
    of_usage_ends Usage none rose h hears =
        record {
          text = usage_text;
          places = [];
          answers = no_form none refl refl refl;
          gave = record { grows = h; hears = hears };
        }
    of_usage_ends WriteFault none rose h hears = (
      rose refl,
      record {
        status = Usage;
        text = h.0;
        rest = h.1;
        places = [];
        more = [];
        answers = no_form none refl (sym h.2) refl;
        gave = record { grows = h.3; hears = hears };
      },
    )
    of_usage_ends status none rose h hears = absurd h

    of_inputless : (status : Status) → (status ≡ WriteFault → Rose b.write_faults a.write_faults) →
        EndsWithoutInput words status b.taken a.taken b.told a.told → EndsOn only words status b a
    of_inputless ReadFault rose h = absurd (h.unread refl)
    of_inputless WriteFault rose h = (rose refl, new_begun [] (h.cut refl))
    of_inputless NoMemory rose h = broken_begun [] (h.broken refl)
    of_inputless status rose h = new_answered [] status (h.answered tt)

    of_unread : (status : Status) → ClausesApart words status b a → NeedNoInput words → EndsOn only words status b a
    of_unread status h (inl none) = of_usage_ends status none h.write_cause (h.usage none) (h.untold none)
    of_unread status h (inr none) = of_inputless status h.write_cause (h.inputless_ends none)

    pub clauses-give_ends : (status : Status) → ClausesApart words status b a → CallEnds words status b a
    clauses-give_ends status h = record {
      ends = of_ends status h;
      complete = λ sound. h.complete sound.read sound.write;
      usage_only = h.usage_only;
      usage = λ none. of_usage status (h.usage none);
      unread_ends = of_unread status h;
      read = λ needs. record { whole = h.read needs; beyond = h.size needs };
      later = record { read = h.later_source; write = h.later_sink };
    }
