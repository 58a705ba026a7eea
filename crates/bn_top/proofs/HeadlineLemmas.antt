-- The headline, from the answer that was given whole.
use Rattle.std.specs.Prelude.{◌≡◌, true, ℕ, ◌≤◌, List, [], ◌∷◌, length, codes, decimal, Option, Some, None, IfSome}
use Rattle.std.specs.Prelude.{refl}
use Rattle.std.proofs.Common.{arith, subst}
use Rattle.bn_circuits.specs.declared.place.Place.{Place}
use Rattle.bn_machine.specs.Outcome.{Limits}
use Rattle.bn_words.specs.Requests.{Request, HasForm, HasNoForm, Run, Generate, reads_input}
use Rattle.bn_words.proofs.FormLemmas.{one_form}
use Rattle.bn_gen.specs.Increments.{IsRoundCount}
use Rattle.bn_reply_boards.specs.GenerateReply.{GenerateReplies}
use Rattle.bn_reply_boards.specs.GenerateLaws.{GeneratedRunsTellOutcomes}
use Rattle.bn_reply.specs.Codes.{IsAnswer}
use Rattle.bn_reply.specs.declared.status.Status.{Status}
use Rattle.bn_reply_relations.specs.ToldRuns.{AsksRun, TellsHeadline}
use Rattle.bn_reply.specs.declared.limits.TheConstants.{MOST_INPUT_BYTES}
use Rattle.bn_reply_relations.specs.RunReply.{RunReplies}
use Rattle.bn_network.specs.Limits.{AreSmall}
use Rattle.bn_reply_relations.proofs.ClosedLemmas.{headline_told}
use Rattle.bn_top.specs.Answers.{Answers, no_form, unread, too_long, replied, Replies}
use Rattle.bn_top.specs.Told.{IsAnswered, TellsGenerate}
use Rattle.bn_top.proofs.AnswerLemmas.{not_both}
use Rattle.bn_top.proofs.EndLemmas.{by_told}

-- words that ask for a run have its form
asked_form : (words : List (List ℕ)) (letters : List ℕ) (l : Limits) (given : Option ℕ) → AsksRun words letters l given
    → AreSmall l →
    HasForm words (Run letters l given)
asked_form words letters l None h small = record { words_are = h; allowed = (small, tt) }
asked_form words letters l (Some e) h small = record { words_are = h.0; allowed = (small, h.1) }

-- whatever run the words ask for, the answer is the reply to it
pub asked_reply : (words : List (List ℕ)) (bytes : List ℕ) (status : Status) (text : List ℕ) (told : List Place)
    → Answers words bytes status text told →
    (letters : List ℕ) (l : Limits) (given : Option ℕ) → AsksRun words letters l given → AreSmall l
    → length bytes ≤ MOST_INPUT_BYTES →
    RunReplies given letters l bytes status text told
asked_reply words bytes status text told (no_form none s t p) letters l given asks small short =
    absurd (none (Run letters l given) (asked_form words letters l given asks small))
asked_reply words bytes status text told (unread r form nothing reply) letters l given asks small short =
    absurd (not_both words (Run letters l given) r (asked_form words letters l given asks small) form refl nothing)
asked_reply words bytes status text told (too_long r form reads long s t p) letters l given asks small short =
    absurd (omega arith)
asked_reply words bytes status text told (replied r form reads low reply) letters l given asks small short =
    let same : r ≡ Run letters l given = one_form words r (Run letters l given) form
    (asked_form words letters l given asks small) in
    subst (λ x. Replies x bytes status text told) same reply

-- an answer that was given whole tells the headline
answered_headline : (words : List (List ℕ)) (bytes : List ℕ) (status : Status) (taken took : Option (List ℕ))
    (told heard : Option (List Place)) →
    IsAnswered words bytes status taken took told heard → TellsHeadline words bytes status taken took
answered_headline words bytes status taken took told heard h =
    headline_told words bytes status taken took
    (λ letters l given asks small short. (
      h.text,
      h.places,
      asked_reply words bytes status h.text h.places h.answers letters l given asks small short,
      h.grows,
    ))

-- and so for what the source tells
pub headline_follows : (words : List (List ℕ)) (left : Option (List ℕ)) (status : Status) (taken took : Option (List ℕ))
    (told heard : Option (List Place)) →
    (IsAnswer status → IfSome left (λ bytes. IsAnswered words bytes status taken took told heard)) →
    IsAnswer status → IfSome left (λ bytes. TellsHeadline words bytes status taken took)
headline_follows words left status taken took told heard answered is =
    by_told left (λ bytes. IsAnswered words bytes status taken took told heard)
    (λ bytes. TellsHeadline words bytes status taken took)
    (λ bytes h. answered_headline words bytes status taken took told heard h) (answered is)

-- ---- the headline of `generate`

increments_form : (words : List (List ℕ)) (k : ℕ) → IsRoundCount k → words ≡ codes "generate" ∷ decimal k ∷ []
    → HasForm words (Generate k)
increments_form words k h is = record { words_are = is; allowed = h }

-- words that ask for something else say nothing of it
pub generates_not : (words : List (List ℕ)) (request : Request) (status : Status) (taken took : Option (List ℕ))
    → HasForm words request →
    reads_input request ≡ true → TellsGenerate words status taken took
generates_not words request status taken took form reads = λ k h is.
    absurd (not_both words request (Generate k) form (increments_form words k h is) reads refl)

pub generates_nothing : (words : List (List ℕ)) (status : Status) (taken took : Option (List ℕ)) → HasNoForm words
    → TellsGenerate words status taken took
generates_nothing words status taken took none = λ k h is. absurd (none (Generate k) (increments_form words k h is))

increments_reply : (words : List (List ℕ)) (k : ℕ) (status : Status) (text : List ℕ) (told : List Place)
    → HasForm words (Generate k) →
    Answers words [] status text told → GenerateReplies k status text told
increments_reply words k status text told asked (no_form none s t p) = absurd (none (Generate k) asked)
increments_reply words k status text told asked (unread r form nothing reply) =
    let same : r ≡ Generate k = one_form words r (Generate k) form asked in
    subst (λ x. Replies x [] status text told) same reply
increments_reply words k status text told asked (too_long r form reads long s t p) =
    absurd (not_both words r (Generate k) form asked reads refl)
increments_reply words k status text told asked (replied r form reads low reply) =
    absurd (not_both words r (Generate k) form asked reads refl)

pub generates : GeneratedRunsTellOutcomes → (words : List (List ℕ)) (status : Status) (taken took : Option (List ℕ))
    (told heard : Option (List Place)) →
    IsAnswered words [] status taken took told heard → TellsGenerate words status taken took
generates tell words status taken took told heard a = λ k h is. (
  a.text,
  a.grows,
  tell k status a.text a.places h (increments_reply words k status a.text a.places
      (increments_form words k h is) a.answers),
)
