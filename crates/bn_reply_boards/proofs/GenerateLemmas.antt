-- The answers of `generate` by those of `run`.
use Rattle.std.specs.Prelude.{◌≡◌, ℕ, List, [], ◌++◌, Some, None, Option, Err, length, All, refl}
use Rattle.std.proofs.Common.{sym, subst, ◌∙◌, ap, arith, zero, suc}
use Rattle.bn_circuits.specs.declared.place.Place.{Place}
use Rattle.bn_machine.specs.Outcome.{Limits, Outcome}
use Rattle.bn_table.specs.Rows.{Named}
use Rattle.bn_gen.specs.Increments.{IsRoundCount}
use Rattle.bn_gen.specs.Text.{increments_table, increments_text}
use Rattle.bn_gen.proofs.MachineLemmas.{standard}
use Rattle.bn_gen.proofs.TableLemmas.{text_reads}
use Rattle.bn_reply.specs.Answering.{IsSettled}
use Rattle.bn_reply.specs.Replying.{IsReplied, IsUnfinished, untold, told_some}
use Rattle.bn_reply.specs.Words.{IsLetterSymbol}
use Rattle.bn_lists.specs.declared.memory.NoMemory.{NoMemory}
use Rattle.bn_reply.specs.declared.reply.Reply.{Reply}
use Rattle.bn_reply.specs.declared.status.Status.{Status}
use Rattle.bn_reply_relations.specs.RunReply.{RunReplies}
use Rattle.bn_network.specs.Limits.{AreSmall}
use Rattle.bn_reply_relations.specs.ToldRuns.{ComesOutOn, IsGiven, TellsOutcome, TookOutcome}
use Rattle.bn_reply_relations.specs.Laws.{RepliesTellOutcomes}
use Rattle.bn_reply_relations.proofs.ClosedLemmas.{run_settled}
use Rattle.bn_reply_boards.specs.Running.{IsAnswered}
use Rattle.bn_reply_boards.proofs.AnsweredLemmas.{answered_late}
use Rattle.bn_reply_boards.specs.GenerateReply.{GenerateReplies, digits, number, title, window}
use Rattle.bn_reply_boards.specs.GenerateLaws.{TellsGenerated}

-- what `run` answers
abbrev pub Runs : ℕ → Status → List ℕ → List Place → Type 0
Runs k = RunReplies None number (window k) (increments_text k)

pub small : (k : ℕ) → IsRoundCount k → AreSmall (window k)
small k h = (omega arith, omega arith, omega (arith, h.few), omega arith)

-- ---- one answer

pub behind : (k : ℕ) (status : Status) (ran : List ℕ) (told : List Place) → Runs k status ran told
    → GenerateReplies k status (title k ++ ran) told
behind k status ran told h = record { ran = ran; runs = h; text_is = refl }

pub generate_settled : (k : ℕ) → IsRoundCount k → IsSettled (GenerateReplies k)
generate_settled k h =
    let runs = run_settled None number (window k) (increments_text k) (small k h) in
    record {
      some = let found = runs.some in (found.0, title k ++ found.1, found.2, behind k found.0 found.1 found.2 found.3);
      one = λ status other text second told heard a b.
          let same = runs.one status other a.ran b.ran told heard a.runs b.runs in
          record {
            statuses = same.statuses;
            texts = a.text_is ∙ ap (λ (t : List ℕ). title k ++ t) same.texts ∙ sym b.text_is;
            places = same.places;
          };
      status = λ status text told a. runs.status status a.ran told a.runs;
    }

-- ---- what is given

letter_symbols : (t : Named) → length t.letters ≡ 3 → All (IsLetterSymbol t) digits
letter_symbols t three zero d inside = record { letter = λ e. cc e; known = omega (arith, three) }
letter_symbols t three (suc zero) d inside = record { letter = λ e. cc e; known = omega (arith, three) }
letter_symbols t three (suc (suc zero)) d inside = record { letter = λ e. cc e; known = omega (arith, three) }
letter_symbols t three (suc (suc (suc zero))) d inside = record { letter = λ e. cc e; known = omega (arith, three) }
letter_symbols t three (suc (suc (suc (suc i)))) d inside = absurd (omega (arith, inside))

pub given : (k : ℕ) → IsRoundCount k → IsGiven (increments_text k) number (window k) (increments_table k) digits
given k h = record {
  reads = record { reads = text_reads k (increments_text k) h refl; standard = standard k h };
  spelled = record { letters = refl; symbols_known = letter_symbols (increments_table k) refl };
  small = small k h;
}

-- ---- what is told

pub told_of : RepliesTellOutcomes → (k : ℕ) (status : Status) (text : List ℕ) (told : List Place)
    → GenerateReplies k status text told → TellsGenerated k status text
told_of tell k status text told h =
    let took : (count i : ℕ) (o : Outcome) → ComesOutOn (increments_text k) number (window k) (increments_table k)
    digits count i o
    → TookOutcome None (increments_table k) (window k) digits count i o status (Some []) (Some h.ran) =
    λ count i o out. tell None (increments_text k) number (window k) status h.ran told (Some []) (Some h.ran) h.runs
    refl (increments_table k) digits count i o out in
    record {
      ran = h.ran;
      text_is = h.text_is;
      counted = λ count i o out. (took count i o out).counted;
      runs = λ count i o out. (took count i o out).runs;
      tells = λ count i o out f comes.
          let t = took count i o out in
          let same : t.text ≡ h.ran = cc in
          subst (TellsOutcome (increments_table k) (window k) digits f i o status) same (t.tells f comes);
    }

-- ---- the reply

pub unfinished_behind : (k : ℕ) (told heard : Option (List Place)) → IsUnfinished (Runs k) told heard
    → IsUnfinished (GenerateReplies k) told heard
unfinished_behind k told heard (untold h) = untold h
unfinished_behind k told heard (told_some s text places front rest h cut hears) =
    told_some s (title k ++ text) places front rest (behind k s text places h) cut hears

-- no reply for want of memory, before the run has ended and behind it
module _ (k : ℕ) (l : Limits) (bytes : List ℕ) (l_is : l ≡ window k) (bytes_are : bytes ≡ increments_text k)
    (e : NoMemory) (told heard : Option (List Place)) where
  runs_as : (Claim : (Status → List ℕ → List Place → Type 0) → Type 0) → Claim (RunReplies None number l bytes)
      → Claim (Runs k)
  runs_as Claim h =
      let limited = subst (λ (m : Limits). Claim (RunReplies None number m bytes)) l_is h in
      subst (λ (b : List ℕ). Claim (RunReplies None number (window k) b)) bytes_are limited

  pub none_within : IsUnfinished (RunReplies None number l bytes) told heard
      → IsAnswered (GenerateReplies k) (Err e) told heard
  none_within h = record {
    replied = tt;
    interrupted = unfinished_behind k told heard (runs_as (λ R. IsUnfinished R told heard) h);
  }

  pub none_behind : (r : Reply) → IsReplied (RunReplies None number l bytes) r told heard
      → IsAnswered (GenerateReplies k) (Err e) told heard
  none_behind r h =
      let ran : IsReplied (Runs k) r told heard = runs_as (λ R. IsReplied R r told heard) h in
      answered_late (GenerateReplies k) e r.status (title k ++ r.text.items) ran.places told heard
      (behind k r.status r.text.items ran.places ran.right) ran.hears
