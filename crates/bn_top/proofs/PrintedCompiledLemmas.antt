-- What `compile` printed, by `bennett` and `build`.
use Rattle.std.specs.Prelude.{◌≡◌, true, ℕ, ◌≤◌, List, length, refl}
use Rattle.std.proofs.Common.{subst, sym}
use Rattle.bn_circuits.specs.declared.place.Place.{Place}
use Rattle.bn_qtable.specs.TapeWords.{Letters, One}
use Rattle.bn_table.specs.Rows.{Named}
use Rattle.bn_reply.specs.TableReply.{ReadsStandard, StandardReplies, faulty, fit, read, unfit}
use Rattle.bn_reply.specs.declared.status.Status.{Status}
use Rattle.bn_reply.specs.declared.status.Status.TheVariants.{Done}
use Rattle.bn_reply.proofs.TableLemmas.{reads_table}
use Rattle.bn_reply_builds.specs.BuildReply.{BuildReplies}
use Rattle.bn_reply_builds.proofs.LawLemmas.{compiling_is_building-texts}
use Rattle.bn_reply_builds.proofs.SettledLemmas.{build_is_settled}
use Rattle.bn_reply_machines.specs.BennettReply.{bennett_text}
use Rattle.bn_headline.proofs.CommandLemmas.{bennett-tells}
use Rattle.bn_words.specs.Requests.{Bennett, Build, Compile, HasForm, Request, reads_input, words_of}
use Rattle.bn_top.specs.Answers.{Answers, no_form, replied, too_long, unread}
use Rattle.bn_top.proofs.AnswerLemmas.{not_both}
use Rattle.bn_top.proofs.CommandClauseLemmas.{request_reply}
use Rattle.bn_top.proofs.TextLemmas.{done_reply}
use Rattle.bn_reply.specs.declared.limits.TheConstants.{MOST_INPUT_BYTES}
use Rattle.bn_reply_erase.proofs.PrintedSizeLemmas.{bennett-read}
use Rattle.bn_top.specs.PrintedTables.{CompilingIsBuildingAgain}

-- an input at which all went well is within the limit
pub done_short : (words : List (List ℕ)) (bytes text : List ℕ) (told : List Place) (request : Request)
    → HasForm words request → reads_input request ≡ true → Answers words bytes Done text told
    → length bytes ≤ MOST_INPUT_BYTES
done_short words bytes text told request asks reads (no_form none s t p) = absurd (none request asks)
done_short words bytes text told request asks reads (unread r form nothing reply) =
    absurd (not_both words request r asks form reads nothing)
done_short words bytes text told request asks reads (too_long r form also long s t p) = absurd (cc)
done_short words bytes text told request asks reads (replied r form also low reply) = low

-- bytes to which all went well are a table with a machine in standard form
done_standard : (tells : Named → Status → List ℕ → List Place → Type 0) (bytes text : List ℕ) (told : List Place)
    → StandardReplies tells bytes Done text told → (t : Named) × ReadsStandard bytes t
done_standard tells bytes text told (faulty h e n) = absurd (cc)
done_standard tells bytes text told (read t reads (unfit h e n)) = absurd (cc)
done_standard tells bytes text told (read t reads (fit standard answer)) =
    (t, record { reads = reads; standard = standard })

pub compiling-again : CompilingIsBuildingAgain
compiling-again bytes word text table again l a b told silent heard form compiled printed built =
    let reply = done_reply (words_of (Compile word l)) bytes text told (Compile word l) form refl compiled in
    let short = done_short (words_of (Compile word l)) bytes text told (Compile word l) form refl compiled in
    let found = done_standard _ bytes text told reply in
    let t : Named = found.0 in
    let asks : HasForm (words_of Bennett) Bennett = record { words_are = refl; allowed = tt } in
    let bennett = bennett-tells bytes a table silent
    (request_reply (words_of Bennett) bytes a table silent printed Bennett asks refl short) t found.1 in
    let whole = compiling_is_building-texts bytes word l text told reply t found.1 in
    let builds : HasForm (words_of (Build (One (Letters word)) l)) (Build (One (Letters word)) l) = record {
      words_are = refl;
      allowed = form.allowed;
    } in
    let within : length table ≤ MOST_INPUT_BYTES =
    subst (λ (z : List ℕ). length z ≤ MOST_INPUT_BYTES) (sym bennett.1)
    (bennett-read t (reads_table bytes t found.1.reads)) in
    let own = request_reply (words_of (Build (One (Letters word)) l)) table b again heard built
    (Build (One (Letters word)) l) builds refl within in
    let same = (build_is_settled (One (Letters word)) l (bennett_text t)).one b Done again text heard told
    (subst (λ z. BuildReplies (One (Letters word)) l z b again heard) bennett.1 own) whole in
    (bennett.0, same.statuses, same.texts, same.places)
