-- What is answered to two tables, from their openings.
use Rattle.std.proofs.Common.{subst, List, []}
use Rattle.std.specs.Prelude.{ℕ, IfOk}
use Rattle.bn_circuits.specs.declared.place.Place.{Place}
use Rattle.bn_table.specs.Rows.{Named}
use Rattle.bn_erase.specs.Joint.{Joint, joined}
use Rattle.bn_reply.specs.Answering.{IsDone}
use Rattle.bn_reply_erase.specs.EraseReply.{CountedReplies, erase_text}
use Rattle.bn_reply.specs.declared.status.Status.{Status}
use Rattle.bn_reply_erase.specs.Opened.{IsJudgedPair, IsOpenedPair}
use Rattle.bn_reply_erase.proofs.AnswerLemmas.{fit_replies, pair_of, refused_replies, unfit_replies}
use Rattle.bn_reply_erase.proofs.erase.reply_erase.Goals as goal

pub returns-in-Refused : goal.returns-in-Refused
returns-in-Refused c =
    let tells : Named → Named → Status → List ℕ → List Place → Type 0 =
    λ t u. CountedReplies (IsDone (erase_text (joined t u))) (joined t u) in
    refused_replies tells c.args.bytes.now c.in-Refused.reply (subst (IsOpenedPair c.args.bytes.now) c.in-Refused.is
    c.in_ok-reply.ensures)

pub returns-in-Refused-2 : goal.returns-in-Refused-2
returns-in-Refused-2 c =
    let tells : Named → Named → Status → List ℕ → List Place → Type 0 =
    λ t u. CountedReplies (IsDone (erase_text (joined t u))) (joined t u) in
    let j : Joint = c.in-Joined.joined in
    let pair = pair_of c.args.bytes.now j (subst (IsOpenedPair c.args.bytes.now) c.in-Joined.is c.in_ok-reply.ensures)
    in
    unfit_replies tells c.args.bytes.now j pair c.in-Refused-2.reply
    (subst (IsJudgedPair j) c.in-Refused-2.is c.in_ok-reply-in-Joined.ensures)

pub returns : goal.returns
returns c =
    let tells : Named → Named → Status → List ℕ → List Place → Type 0 =
    λ t u. CountedReplies (IsDone (erase_text (joined t u))) (joined t u) in
    let j : Joint = c.in-Joined.joined in
    let pair = pair_of c.args.bytes.now j (subst (IsOpenedPair c.args.bytes.now) c.in-Joined.is c.in_ok-reply.ensures)
    in
    let judged = subst (IsJudgedPair j) c.in-Standard.is c.in_ok-reply-in-Joined.ensures in
    fit_replies tells c.args.bytes.now j pair c.reply_machine.result judged.2 judged.3
    (subst (λ (k : Joint). IfOk c.reply_machine.result (λ r. CountedReplies (IsDone (erase_text k)) k r.status
    r.text.items [])) pair.same c.reply_machine.ensures)
