-- The headline by the machine alone, from the whole answer.
use Rattle.std.specs.Prelude.{ℕ, List, Option}
use Rattle.bn_circuits.specs.declared.place.Place.{Place}
use Rattle.bn_reply.specs.declared.status.Status.{Status}
use Rattle.bn_reply_relations.specs.Laws.{TookReplies}
use Rattle.bn_top.specs.Told.{IsAnswered}
use Rattle.bn_top.proofs.EndLemmas.{by_told}
use Rattle.bn_top.proofs.HeadlineLemmas.{asked_reply}
use Rattle.bn_headline.specs.Generated.{GeneratedHeadline}
use Rattle.bn_headline.specs.MachineHeadline.{MachineHeadline, MachineHeadlineWithin}
use Rattle.bn_headline.specs.HeadlineLaws.{GeneratedTellsMachine, RepliesTellMachine}
use Rattle.bn_top.specs.HeadlineLaws.{AnswersTellMachine, GeneratedClauseTells}

-- an answer that was given whole is the reply to whatever run the words ask for
took_replies : (words : List (List ℕ)) (bytes : List ℕ) (status : Status) (taken took : Option (List ℕ))
    (told heard : Option (List Place)) →
    IsAnswered words bytes status taken took told heard → TookReplies words bytes status taken took
took_replies words bytes status taken took told heard h letters l given asks small short = (
  h.text,
  h.places,
  asked_reply words bytes status h.text h.places h.answers letters l given asks small short,
  h.grows,
)

pub answers-tell_machine : RepliesTellMachine → AnswersTellMachine
answers-tell_machine tell words left status taken took told heard answered is = (
  by_told left (λ bytes. IsAnswered words bytes status taken took told heard)
      (λ bytes. MachineHeadline words bytes status taken took)
      (λ bytes h. (tell words bytes status taken took (took_replies words bytes status taken took told heard h)).0)
      (answered is),
  by_told left (λ bytes. IsAnswered words bytes status taken took told heard)
      (λ bytes. MachineHeadlineWithin words bytes status taken took)
      (λ bytes h. (tell words bytes status taken took (took_replies words bytes status taken took told heard h)).1)
      (answered is),
)

pub generated-clause_tells : GeneratedTellsMachine → GeneratedClauseTells
unfolding GeneratedHeadline
generated-clause_tells tell words status taken took told k h is =
    let t = told k h is in tell k status t.0 taken took h t.2 t.1
