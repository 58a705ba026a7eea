-- From the openings of two tables and of a word to the answer.
use Rattle.std.specs.Prelude.{◌≡◌, ℕ, ◌<◌, List, [], length, Result, Ok, Err, IfOk, All, refl}
use Rattle.std.proofs.Common.{sym, subst, ◌∙◌, arith, get_or}
use Rattle.bn_circuits.specs.declared.place.Place.{Place}
use Rattle.bn_machine.specs.Machine.{Program}
use Rattle.bn_bennett_laws.specs.Stages.{IsSpelledBy}
use Rattle.bn_machine.specs.Standard.{IsStandard}
use Rattle.bn_machine.specs.Verdict.{IsStandardRefusal}
use Rattle.bn_machine.specs.declared.why.Why.{Why}
use Rattle.bn_table.specs.Reading.{Reads}
use Rattle.bn_table.specs.Rows.{Named}
use Rattle.bn_erase_laws.specs.Erasing.{IsWord}
use Rattle.bn_erase_laws.specs.Outcome.{HasErasingOutcome}
use Rattle.bn_erase_laws.specs.Outcome as free
use Rattle.bn_erase_laws.proofs.OutcomeLemmas.{halts_exactly}
use Rattle.bn_erase_laws.proofs.TheoremLemmas.{output_letters}
use Rattle.bn_erase.specs.Joint.{IsJoint, Joint, joined}
use Rattle.bn_erase.specs.Made.{Erasure, IsErasing}
use Rattle.bn_erase.proofs.JoinedLemmas.{joined_are_judged_alike}
use Rattle.bn_base.specs.Cuts.{IsCut}
use Rattle.bn_reply.specs.Lines.{why_line}
use Rattle.bn_reply.specs.TableReply as table_reply
use Rattle.bn_reply.specs.Words.{IsLetterSymbol}
use Rattle.bn_reply.specs.declared.reply.Reply.{Reply}
use Rattle.bn_lists.specs.declared.memory.NoMemory.{NoMemory as WantOfMemory}
use Rattle.bn_reply.specs.declared.status.Status.{Status}
use Rattle.bn_reply.proofs.TableLemmas.{reads_table, why_told}
use Rattle.bn_reply_erase.specs.EraseReply.{lettered}
use Rattle.bn_reply_erase.specs.EraseRun.{AreOf, FitsLetters, HasEnded}
use Rattle.bn_reply_erase.specs.Opened.{IsUnfitPair, first_unfit, nothing, second_unfit}
use Rattle.bn_reply_erase.specs.Pairs.{PairReplies}
use Rattle.bn_reply_erase.specs.Pairs as pairs
use Rattle.bn_reply_erase.specs.declared.run.Ending.{Ending}
use Rattle.bn_reply_erase.specs.declared.run.Ending.TheVariants.{Halted, Stuck, Running}
use Rattle.bn_reply_erase.proofs.PairLemmas.{pair_weaker}

-- ---- two tables

-- the bytes are two tables, whose machines over one alphabet are these
pub record IsPairOf (bytes : List ℕ) (j : Joint) : Type 0 where
  pub first : List ℕ
  pub second : List ℕ
  pub cut : IsCut bytes first second
  pub t : Named
  pub u : Named
  pub reads : Reads first t
  pub also : Reads second u
  pub same : j ≡ joined t u

pub pair_of : (bytes : List ℕ) (j : Joint) → (first second : List ℕ) × IsCut bytes first second
    × ((t u : Named) × Reads first t × Reads second u × (j ≡ joined t u)) → IsPairOf bytes j
pair_of bytes j h =
    let read = h.3 in
    record {
      first = h.0;
      second = h.1;
      cut = h.2;
      t = read.0;
      u = read.1;
      reads = read.2;
      also = read.3;
      same = read.4;
    }

module _ (tells : Named → Named → Status → List ℕ → List Place → Type 0) (bytes : List ℕ) where
  -- a refusal is the answer
  pub refused_replies : (r : Reply) → PairReplies nothing bytes r.status r.text.items []
      → PairReplies tells bytes r.status r.text.items []
  refused_replies r h = pair_weaker nothing tells (λ t u s x d none. absurd none) bytes r.status r.text.items [] h

  module _ (j : Joint) (h : IsPairOf bytes j) where
    alike : (why : Why) → IsStandardRefusal j.first.quints why → IsStandardRefusal h.t.machine.quints why
    alike why refusal =
        let law = joined_are_judged_alike h.t h.u (reads_table h.first h.t h.reads) (reads_table h.second h.u h.also) in
        let both = law.3 why in
        both.0 (subst (λ (k : Joint). IsStandardRefusal k.first.quints why) h.same refusal)

    second_alike : (why : Why) → IsStandardRefusal j.second.quints why → IsStandardRefusal h.u.machine.quints why
    second_alike why refusal =
        let law = joined_are_judged_alike h.t h.u (reads_table h.first h.t h.reads) (reads_table h.second h.u h.also) in
        let both = law.4 why in
        both.0 (subst (λ (k : Joint). IsStandardRefusal k.second.quints why) h.same refusal)

    first_standard : IsStandard j.first.quints → IsStandard h.t.machine.quints
    first_standard standard =
        let law = joined_are_judged_alike h.t h.u (reads_table h.first h.t h.reads) (reads_table h.second h.u h.also) in
        law.1.0 (subst (λ (k : Joint). IsStandard k.first.quints) h.same standard)

    second_standard : IsStandard j.second.quints → IsStandard h.u.machine.quints
    second_standard standard =
        let law = joined_are_judged_alike h.t h.u (reads_table h.first h.t h.reads) (reads_table h.second h.u h.also) in
        law.2.0 (subst (λ (k : Joint). IsStandard k.second.quints) h.same standard)

    -- so is a demand that one of the machines doesn't meet
    pub unfit_replies : (r : Reply) → IsUnfitPair j r → PairReplies tells bytes r.status r.text.items []
    unfit_replies r (first_unfit why refusal said text status) =
        pairs.cut h.first h.second h.cut (table_reply.read h.t h.reads (pairs.read h.u h.also
        (table_reply.unfit (why_told h.t why r.text.items (alike why refusal) said text) status refl)))
    unfit_replies r (second_unfit standard why refusal said text status) =
        pairs.cut h.first h.second h.cut (table_reply.read h.t h.reads (pairs.read h.u h.also
        (table_reply.fit (first_standard standard) (pairs.unfit (why_line why)
        (why_told h.u why (why_line why) (second_alike why refusal) said refl) text status refl))))

    -- and what is answered to both in standard form
    pub fit_replies : (result : Result Reply WantOfMemory) → IsStandard j.first.quints → IsStandard j.second.quints →
        IfOk result (λ r. tells h.t h.u r.status r.text.items [])
        → IfOk result (λ r. PairReplies tells bytes r.status r.text.items [])
    fit_replies (Ok r) first second answer =
        pairs.cut h.first h.second h.cut (table_reply.read h.t h.reads (pairs.read h.u h.also
        (table_reply.fit (first_standard first) (pairs.fit (second_standard second) answer))))
    fit_replies (Err e) first second answer = tt

-- ---- the run

-- symbols of a word of joint letters are the machine's, and none is the blank
pub word_letters : (j : Joint) → IsJoint j → (symbols : List ℕ) → All (IsLetterSymbol (lettered j)) symbols
    → IsSpelledBy j.first symbols
word_letters j joint symbols letters k d inside = subst (λ n. get_or symbols k d < n) (sym joint.first_symbols)
    (letters k d inside).known

pub word_nonblank : (j : Joint) (symbols : List ℕ) → All (IsLetterSymbol (lettered j)) symbols → IsWord symbols
word_nonblank j symbols letters k d inside = (letters k d inside).letter

module _ (j : Joint) (first second : Program) (h : AreOf j first second) (e : Erasure) (made : IsErasing first second e)
    (symbols : List ℕ) (letters : All (IsLetterSymbol (lettered j)) symbols)
    (n i : ℕ) where
  own : IsErasing j.first j.second e
  own = subst (λ (p : Program). IsErasing p j.second e) h.first_is
      (subst (λ (q : Program). IsErasing first q e) h.second_is made)

  -- what is told of the run are joint letters and a state of the machine
  pub ending_fits : (ending : Ending) → HasEnded e symbols n i ending → FitsLetters j e ending
  ending_fits (Halted work output) ended =
      let outcome : HasErasingOutcome j.first j.second symbols n i (free.Halted work.items output.items) =
      ended.comes_out j.first j.second own h.first_standard h.second_standard in
      let same : j.first.symbols ≡ j.second.symbols = h.joint.first_symbols ∙ sym h.joint.second_symbols in
      let spelled = word_letters j h.joint symbols letters in
      let found = (halts_exactly j.first j.second symbols h.first_standard h.second_standard same spelled
      (word_nonblank j symbols letters) n i work.items output.items).0 outcome in
      let shown : IsSpelledBy j.second output.items = output_letters j.first j.second h.first_standard h.second_standard
      symbols output.items found.0 same spelled found.4 in (
        subst (All (λ s. s < length j.letters)) (sym found.3) (λ k d inside. absurd (omega (arith, inside))),
        λ k d inside. subst (λ m. get_or output.items k d < m) h.joint.second_symbols (shown k d inside),
      )
  ending_fits (Stuck state) ended = ended.state j.first j.second own h.first_standard h.second_standard
  ending_fits Running ended = tt
