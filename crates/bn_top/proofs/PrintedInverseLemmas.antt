-- What `inverse` printed, given to `inverse`.
use Rattle.std.specs.Prelude.{◌≡◌, ℕ, ◌≤◌, List, [], length, refl}
use Rattle.std.proofs.Common.{ap, subst, sym, ◌∙◌}
use Rattle.bn_csv.specs.Entries.{entries_of}
use Rattle.bn_reply.specs.declared.limits.TheConstants.{MOST_INPUT_BYTES}
use Rattle.bn_reply.specs.declared.status.Status.TheVariants.{Done}
use Rattle.bn_reply_machines.specs.InverseReply.{InverseReplies, faulty, inverted}
use Rattle.bn_reply_machines.proofs.InverseLemmas.{inverse-twice, inverse_settled}
use Rattle.bn_words.specs.Requests.{HasForm, Inverse, words_of}
use Rattle.bn_top.proofs.CommandClauseLemmas.{request_reply}
use Rattle.bn_top.proofs.TextLemmas.{done_reply}
use Rattle.bn_reply_erase.proofs.InverseSizeLemmas.{inverse-read}
use Rattle.bn_top.specs.PrintedTables.{InversedTablesReturn}

asks : HasForm (words_of Inverse) Inverse
asks = record { words_are = refl; allowed = tt }

pub inversed-return : InversedTablesReturn
inversed-return bytes text again status told heard first second =
    by (done_reply (words_of Inverse) bytes text told Inverse asks refl first)
  where
    by : InverseReplies bytes Done text told → (status ≡ Done) × (entries_of again ≡ entries_of bytes)
    by (faulty h e n) = absurd (cc)
    by (inverted t reads is e n) =
        let twice = inverse-twice bytes text (inverted t reads is refl refl) in
        let within : length text ≤ MOST_INPUT_BYTES =
        subst (λ (z : List ℕ). length z ≤ MOST_INPUT_BYTES) (sym is) (inverse-read bytes t reads) in
        let reply = request_reply (words_of Inverse) text status again heard second Inverse asks refl within in
        let same = (inverse_settled text).one status Done again twice.0 heard [] reply twice.1 in
        (same.statuses, ap entries_of same.texts ∙ twice.2)
