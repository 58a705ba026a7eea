-- What the workbench prints may be given to it again.
use Rattle.std.specs.Prelude.{◌≡◌, true, ℕ, List, refl}
use Rattle.std.proofs.Common.{ap, subst}
use Rattle.bn_circuits.specs.Stepping.{run}
use Rattle.bn_circuits.specs.declared.config.Config.{Config}
use Rattle.bn_circuits.specs.declared.place.Place.{Place}
use Rattle.bn_circuits.proofs.RunLemmas.{run-IsConfig}
use Rattle.bn_netlist_laws.specs.Spelling.{Spelled, Spelling, circuit_of, moved_to}
use Rattle.bn_netlist_laws.specs.declared.version.Version.TheVariants.{Two}
use Rattle.bn_netlist_laws.proofs.VersionLemmas.{spellings-move}
use Rattle.bn_headline.proofs.CommandLemmas.{back-tells, step-tells}
use Rattle.bn_reply.specs.declared.status.Status.TheVariants.{Done}
use Rattle.bn_reply_relations.proofs.CompileLemmas.{compiled, steps_back}
use Rattle.bn_reply_circuits.specs.MirrorLaws.{IsUncounted}
use Rattle.bn_reply_circuits.specs.MirrorReply.{MirrorReplies, mirrored, misspelled}
use Rattle.bn_reply_circuits.specs.RealiseReply.{RealiseReplies, bank, clashing, faulty, lacking, large, reading}
use Rattle.bn_reply_circuits.proofs.ComeBackLemmas.{farms-come_back}
use Rattle.bn_reply_circuits.proofs.MirrorLemmas.{image_spelled, mirrored_texts-come_back}
use Rattle.bn_reply_relations.proofs.SettledLemmas.{circuits_settled}
use Rattle.bn_reply_relations.proofs.SizeLemmas.{texts-read}
use Rattle.bn_words.specs.Requests.{Back, Compile, Farm, HasForm, Mirror, Realise, Request, Step, reads_input, words_of}
use Rattle.bn_words.proofs.FormLemmas.{one_form}
use Rattle.bn_top.specs.Answers.{Answers, no_form, unread, too_long, replied, Replies}
use Rattle.bn_top.specs.TextLaws.{CompiledTextsReturn, FarmedTextsReturn, MirroredTextsReturn, RealisedTextsReturn}
use Rattle.bn_top.specs.TextLaws.{StepsAndBack}
use Rattle.bn_top.proofs.AnswerLemmas.{not_both}
use Rattle.bn_top.proofs.CommandClauseLemmas.{request_reply}

-- an answer with which all went well is the reply to what the words ask for
pub done_reply : (words : List (List ℕ)) (bytes text : List ℕ) (told : List Place) (request : Request)
    → HasForm words request → reads_input request ≡ true → Answers words bytes Done text told
    → Replies request bytes Done text told
done_reply words bytes text told request asks reads (no_form none s t p) = absurd (none request asks)
done_reply words bytes text told request asks reads (unread r form nothing reply) =
    absurd (not_both words request r asks form reads nothing)
done_reply words bytes text told request asks reads (too_long r form also long s t p) = absurd (cc)
done_reply words bytes text told request asks reads (replied r form also low reply) =
    subst (λ x. Replies x bytes Done text told) (one_form words r request form asks) reply

-- ---- steps, and steps back

module _ (s : Spelling) (text : List ℕ) (is : Spelled Two s text) (fresh : s.config.steps ≡ 0) where
  pub steps_and_back : StepsAndBack text
  steps_and_back e a b middle last told heard asks first second =
      let there : Config = run (circuit_of s) s.config e in
      let reply = request_reply (words_of (Step e)) text a middle told first (Step e) asks refl
      (texts-read Two s text is) in
      let stepped = step-tells e text a middle told reply Two s is in
      let moved = spellings-move Two s there is.admitted
      (run-IsConfig (circuit_of s) is.admitted.circuit s.config is.admitted.config e) in
      let spelled : Spelled Two (moved_to s there) middle = record { admitted = moved; is_text = stepped.1 } in
      let back = request_reply (words_of (Back e)) middle b last heard second (Back e)
      (record { words_are = refl; allowed = asks.allowed }) refl (texts-read Two (moved_to s there) middle spelled) in (
        stepped.0,
        (back-tells e middle b last heard back Two (moved_to s there) spelled).0,
        (steps_back circuits_settled Two s text is fresh).whole e a b middle last told heard reply back,
      )

pub compiled-return : CompiledTextsReturn
compiled-return word l bytes text told form answer =
    let h = compiled bytes word l text told
    (done_reply (words_of (Compile word l)) bytes text told (Compile word l) form refl answer) in
    steps_and_back h.tells text h.is_text (ap (λ (c : Config). c.steps) h.board_is.config)

pub realised-return : RealisedTextsReturn
realised-return q i bytes text told form answer =
    by (done_reply (words_of (Realise q i)) bytes text told (Realise q i) form refl answer)
  where
    by : RealiseReplies q i bytes Done text told → StepsAndBack text
    by (faulty h e n) = absurd (cc)
    by (clashing h e n) = absurd (cc)
    by (reading m reads (lacking h e n)) = absurd (cc)
    by (reading m reads (large h e n)) = absurd (cc)
    by (reading m reads (bank h e n)) =
        steps_and_back h.spelling text h.spelled (ap (λ (c : Config). c.steps) h.bank.config)

-- ---- mirrors and farms

pub mirrored-return : MirroredTextsReturn
mirrored-return bytes text again status told heard first second =
    by (done_reply (words_of Mirror) bytes text told Mirror form refl first)
  where
    form : HasForm (words_of Mirror) Mirror
    form = record { words_are = refl; allowed = tt }

    by : MirrorReplies bytes Done text told → (status ≡ Done) × IsUncounted bytes again
    by (misspelled h e n) = absurd (cc)
    by (mirrored h e n) =
        let short = texts-read h.version h.image text (image_spelled bytes text h) in
        mirrored_texts-come_back bytes text again status heard (mirrored h e refl)
        (request_reply (words_of Mirror) text status again heard second Mirror form refl short)

pub farmed-return : FarmedTextsReturn
farmed-return bytes text again status told heard first short second =
    farms-come_back bytes text again told heard status (done_reply (words_of Farm) bytes text told Farm form refl first)
    (request_reply (words_of Farm) text status again heard second Farm form refl short)
  where
    form : HasForm (words_of Farm) Farm
    form = record { words_are = refl; allowed = tt }
