-- The headline for a window that is found, from the whole answer.
use Rattle.std.specs.Prelude.{◌≡◌, ℕ, ◌≤◌, List, length, Option, refl}
use Rattle.std.proofs.Common.{arith, subst}
use Rattle.bn_circuits.specs.declared.place.Place.{Place}
use Rattle.bn_words.specs.Requests.{HasForm, RunAuto}
use Rattle.bn_words.proofs.FormLemmas.{one_form}
use Rattle.bn_reply.specs.declared.limits.TheConstants.{MOST_INPUT_BYTES}
use Rattle.bn_reply.specs.declared.status.Status.{Status}
use Rattle.bn_headline.specs.AutoLaws.{AnswersTellFoundWindow, TookAuto}
use Rattle.bn_headline.specs.AutoReply.{AutoReplies}
use Rattle.bn_headline.specs.FoundHeadline.{TellsFoundWindow, auto_words}
use Rattle.bn_top.specs.Answers.{Answers, no_form, unread, too_long, replied, Replies}
use Rattle.bn_top.specs.FoundLaws.{AnswersTellFound}
use Rattle.bn_top.specs.Told.{IsAnswered}
use Rattle.bn_top.proofs.AnswerLemmas.{not_both}
use Rattle.bn_top.proofs.EndLemmas.{by_told}

asked_form : (words : List (List ℕ)) (letters : List ℕ) → words ≡ auto_words letters → HasForm words (RunAuto letters)
asked_form words letters is = record { words_are = is; allowed = tt }

-- the answer is the reply to it
asked_reply : (words : List (List ℕ)) (bytes : List ℕ) (status : Status) (text : List ℕ) (told : List Place)
    → Answers words bytes status text told →
    (letters : List ℕ) → words ≡ auto_words letters → length bytes ≤ MOST_INPUT_BYTES
    → AutoReplies letters bytes status text told
asked_reply words bytes status text told (no_form none s t p) letters is short =
    absurd (none (RunAuto letters) (asked_form words letters is))
asked_reply words bytes status text told (unread r form nothing reply) letters is short =
    absurd (not_both words (RunAuto letters) r (asked_form words letters is) form refl nothing)
asked_reply words bytes status text told (too_long r form reads long s t p) letters is short = absurd (omega arith)
asked_reply words bytes status text told (replied r form reads low reply) letters is short =
    let same : r ≡ RunAuto letters = one_form words r (RunAuto letters) form (asked_form words letters is) in
    subst (λ x. Replies x bytes status text told) same reply

took_auto : (words : List (List ℕ)) (bytes : List ℕ) (status : Status) (taken took : Option (List ℕ))
    (told heard : Option (List Place)) →
    IsAnswered words bytes status taken took told heard → TookAuto words bytes status taken took
took_auto words bytes status taken took told heard h letters is short =
    (h.text, h.places, asked_reply words bytes status h.text h.places h.answers letters is short, h.grows)

pub answers-tell_found : AnswersTellFoundWindow → AnswersTellFound
answers-tell_found tell words left status taken took told heard answered is =
    by_told left (λ bytes. IsAnswered words bytes status taken took told heard)
    (λ bytes. TellsFoundWindow words bytes status taken took)
    (λ bytes h. tell words bytes status taken took (took_auto words bytes status taken took told heard h)) (answered is)
