-- What is answered to a script, and to an input that has one, is one answer.
use Rattle.std.specs.Prelude.{◌≡◌, ℕ, List, [], Result, Ok, Err, IfOk, refl}
use Rattle.std.proofs.Common.{sym, subst, ◌∙◌, inl, inr}
use Rattle.bn_lists.specs.declared.memory.NoMemory.{NoMemory as WantOfMemory}
use Rattle.bn_base.specs.Cuts.{IsCut}
use Rattle.bn_base.proofs.CutLemmas.{cuts-never_both, cuts-one}
use Rattle.bn_base.proofs.CutOrNot.{cut_or_not}
use Rattle.bn_circuits.specs.declared.place.Place.{Place}
use Rattle.bn_reply.specs.Answering.{HasAnswer, IsOneAnswer, IsSettled}
use Rattle.bn_reply.specs.Codes.{IsReplyStatus}
use Rattle.bn_reply.specs.declared.reply.Reply.{Reply}
use Rattle.bn_reply.specs.declared.status.Status.{Status}
use Rattle.bn_reply.specs.declared.status.Status.TheVariants as statuses
use Rattle.bn_reply.proofs.SettledLemmas.{agree}
use Rattle.bn_session.specs.Laws.{AreNamesApart}
use Rattle.bn_session.specs.Scripts.{Names, ScriptFault, IsFirstScriptFault, IsRefusalOf, IsScript, malformed, no_break}
use Rattle.bn_session.specs.Scripts.{no_state, same_break}
use Rattle.bn_session.specs.declared.command.Command.{Command}
use Rattle.bn_session.specs.declared.refusal.ScriptRefusal.{ScriptRefusal}
use Rattle.bn_session.specs.declared.refusal.ScriptRefusal.TheVariants as refusals
use Rattle.bn_session.proofs.OneReading.{faults-one, faulty-none, scripts-one}
use Rattle.bn_session.proofs.SomeReading.{read_or_fault}
use Rattle.bn_reply_scripts.specs.ScriptReply.{CutReplies, ScriptReplies, cut, faulty, played, script_fault_line, uncut}
use Rattle.bn_reply_scripts.specs.ScriptReply.{uncut_line}
use Rattle.bn_reply_scripts.specs.Refusing.{IsScriptRefused}

-- ---- a script

module _ (names : Names) (plays : List Command → List ℕ → Type 0) (script : List ℕ) where
  -- one answer, where commands have one
  pub script_once : AreNamesApart names → ((xs : List Command) (text other : List ℕ) → plays xs text → plays xs other
      → text ≡ other)
      → IsOneAnswer (ScriptReplies names plays script)
  script_once apart once s u a b x y (faulty n e h text_is status_is silent)
      (faulty m d k other_is other_status quiet) =
      let same = faults-one names script n m e d apart h k in
      record {
        statuses = status_is ∙ sym other_status;
        texts = text_is ∙ (λ i. script_fault_line (same.0 i) (same.1 i)) ∙ sym other_is;
        places = silent ∙ sym quiet;
      }
  script_once apart once s u a b x y (faulty n e h text_is status_is silent)
      (played xs is plays_so other_status quiet) =
      absurd (faulty-none names script n e xs apart h is)
  script_once apart once s u a b x y (played xs is plays_so status_is silent)
      (faulty n e h other_is other_status quiet) =
      absurd (faulty-none names script n e xs apart h is)
  script_once apart once s u a b x y (played xs is plays_so status_is silent)
      (played ys also others other_status quiet) =
      let same = scripts-one names script ys xs apart also is in
      record {
        statuses = status_is ∙ sym other_status;
        texts = once xs a b plays_so (subst (λ zs. plays zs b) same others);
        places = silent ∙ sym quiet;
      }

  -- an answer, where commands have one
  pub script_answered : ((xs : List Command) → (text : List ℕ) × plays xs text)
      → HasAnswer (ScriptReplies names plays script)
  script_answered there = elim (read_or_fault names script) [
    | inl read ↦
        let text = there read.0 in
        (statuses.Done, text.0, [], played read.0 read.1 text.1 refl refl)
    | inr found ↦ (statuses.Text, script_fault_line found.0 found.1, [], faulty found.0 found.1 found.2 refl refl refl)
  ]

  pub script_status : (s : Status) (text : List ℕ) (told : List Place) → ScriptReplies names plays script s text told
      → IsReplyStatus s
  script_status s text told (faulty n e h text_is status_is silent) = subst IsReplyStatus (sym status_is) tt
  script_status s text told (played xs is plays_so status_is silent) = subst IsReplyStatus (sym status_is) tt

  -- ---- by how it was read and played

  told : (number : ℕ) (fault : ScriptFault) → IsFirstScriptFault names script number fault → (r : Reply)
      → r.status ≡ statuses.Text → r.text.items ≡ script_fault_line number fault
      → ScriptReplies names plays script r.status r.text.items []
  told number fault first r status text = faulty number fault first text status refl

  refused : (refusal : ScriptRefusal) → IsRefusalOf (IsFirstScriptFault names script) refusal → (r : Reply)
      → IsScriptRefused refusal r.status r.text.items
      → ScriptReplies names plays script r.status r.text.items []
  refused (refusals.Form n) first r h = told n malformed first r h.0 h.1
  refused (refusals.NoState n) first r h = told n no_state first r h.0 h.1
  refused (refusals.SameBreak n) first r h = told n same_break first r h.0 h.1
  refused (refusals.NoBreak n) first r h = told n no_break first r h.0 h.1
  refused refusals.NoMemory first r h = absurd h

  -- a script that was refused
  pub script_refused : (refusal : ScriptRefusal) → IsRefusalOf (IsFirstScriptFault names script) refusal → (r : Reply)
      → IsScriptRefused refusal r.status r.text.items
      → ScriptReplies names plays script r.status r.text.items []
  script_refused = refused

-- what other commands answer is an answer too
pub script_as : (names others : Names) (plays so : List Command → List ℕ → Type 0) (script : List ℕ)
    → names ≡ others
    → ((xs : List Command) (text : List ℕ) → plays xs text → so xs text)
    → (s : Status) (text : List ℕ) (told : List Place)
    → ScriptReplies names plays script s text told → ScriptReplies others so script s text told
script_as names others plays so script same each s text told (faulty n e h text_is status_is silent) =
    faulty n e (subst (λ ns. IsFirstScriptFault ns script n e) same h) text_is status_is silent
script_as names others plays so script same each s text told (played xs is plays_so status_is silent) =
    played xs (subst (λ ns. IsScript ns script xs) same is) (each xs text plays_so) status_is silent

-- ---- an input

module _ (answers : List ℕ → List ℕ → Status → List ℕ → List Place → Type 0) (bytes : List ℕ)
    (settled : (table script : List ℕ) → IsSettled (answers table script)) where
  cut_some : HasAnswer (CutReplies answers bytes)
  cut_some = elim (cut_or_not bytes) [
    | inl parts ↦
        let answer = (settled parts.0 parts.1).some in
        (answer.0, answer.1, answer.2, cut parts.0 parts.1 parts.2 answer.3)
    | inr none ↦ (statuses.Text, uncut_line, [], uncut none refl refl refl)
  ]

  cut_one : IsOneAnswer (CutReplies answers bytes)
  cut_one s u a b x y (uncut none text_is status_is silent) (uncut _ other_is other_status quiet) =
      agree statuses.Text s u a b x y status_is other_status (text_is ∙ sym other_is) silent quiet
  cut_one s u a b x y (uncut none text_is status_is silent) (cut table script is tells) =
      absurd (cuts-never_both bytes table script is none)
  cut_one s u a b x y (cut table script is tells) (uncut none text_is status_is silent) =
      absurd (cuts-never_both bytes table script is none)
  cut_one s u a b x y (cut table script is tells) (cut front rest also others) =
      let same = cuts-one bytes table script front rest is also in
      (settled table script).one s u a b x y tells (subst (λ z. z) (λ i. answers (sym same.0 i) (sym same.1 i) u b y)
      others)

  cut_status : (s : Status) (text : List ℕ) (told : List Place) → CutReplies answers bytes s text told → IsReplyStatus s
  cut_status s text told (uncut none text_is status_is silent) = subst IsReplyStatus (sym status_is) tt
  cut_status s text told (cut table script is tells) = (settled table script).status s text told tells

  pub cut_settled : IsSettled (CutReplies answers bytes)
  cut_settled = record { some = cut_some; one = cut_one; status = cut_status }

-- what is answered to an input that was cut
pub cut_replies : (answers : List ℕ → List ℕ → Status → List ℕ → List Place → Type 0) (bytes table script : List ℕ)
    → IsCut bytes table script → (result : Result Reply WantOfMemory)
    → IfOk result (λ r. answers table script r.status r.text.items [])
    → IfOk result (λ r. CutReplies answers bytes r.status r.text.items [])
cut_replies answers bytes table script is (Err e) h = tt
cut_replies answers bytes table script is (Ok r) h = cut table script is h
