-- `erase` and `erase =W n` have one answer to all words, numbers of steps and bytes.
use Rattle.std.specs.Prelude.{ℕ, ◌<◌, ◌≤◌, List, [], length, ◌⊎◌, refl}
use Rattle.std.proofs.Common.{inl, inr, sym, subst, ap, ◌∙◌, arith}
use Rattle.std.proofs.lemmas.Bool.{cases_lt}
use Rattle.bn_circuits.specs.declared.place.Place.{Place}
use Rattle.bn_bennett_laws.specs.Stages.{IsStandardMachine}
use Rattle.bn_erase_laws.specs.Outcome.{Halted, ErasingOutcome, Running, Stuck}
use Rattle.bn_erase_laws.proofs.OutcomeLemmas.{outcome_exists, outcome_is_one}
use Rattle.bn_erase.specs.Joint.{IsJoint, Joint, joined}
use Rattle.bn_erase.specs.declared.erasing.TheConstants.{MOST_QUADRUPLES}
use Rattle.bn_reply.specs.Answering.{HasAnswer, IsDone, IsOneAnswer, IsSettled}
use Rattle.bn_reply.specs.Codes.{IsReplyStatus}
use Rattle.bn_reply.specs.TableReply.{WordReplies}
use Rattle.bn_reply.specs.declared.status.Status.{Status}
use Rattle.bn_reply.specs.declared.status.Status.TheVariants as statuses
use Rattle.bn_reply.proofs.LetterLemmas.{HasAlphabet}
use Rattle.bn_reply.proofs.SettledLemmas.{agree, done_settled, lettered_settled}
use Rattle.bn_reply.proofs.TableLemmas.{reads_table}
use Rattle.bn_reply_erase.specs.EraseReply.{CountedReplies, EraseIsSettled, EraseRunIsSettled, LongReplies}
use Rattle.bn_reply_erase.specs.EraseReply.{TellsErasing, erase_text, erasing_of}
use Rattle.bn_reply_erase.specs.EraseReply.{few, lettered, long, many, many_line, outcome_text, short, erasing_status}
use Rattle.bn_reply.specs.Lines.{long_line}
use Rattle.bn_base.specs.declared.limits.TheConstants.{MOST_COUNT}
use Rattle.bn_reply_erase.proofs.JudgedLemmas.{both_standard, joint_of_tables}
use Rattle.bn_reply_erase.proofs.PairLemmas.{pair_settled}

-- ---- the number of quadruples

module _ (tells : Status → List ℕ → List Place → Type 0) (j : Joint) (settled : IsSettled tells) where
  counted_some : (MOST_QUADRUPLES < length (erasing_of j)) ⊎ (length (erasing_of j) ≤ MOST_QUADRUPLES)
      → HasAnswer (CountedReplies tells j)
  counted_some (inl more) = (statuses.Size, many_line (length (erasing_of j)), [], many more refl refl refl)
  counted_some (inr less) = let some = settled.some in (some.0, some.1, some.2, few less some.3)

  counted_one : IsOneAnswer (CountedReplies tells j)
  counted_one s u a b x y (many h is e n) (many k also f o) = agree statuses.Size s u a b x y e f (is ∙ sym also) n o
  counted_one s u a b x y (many h is e n) (few k answer) = absurd (omega arith)
  counted_one s u a b x y (few h answer) (many k also f o) = absurd (omega arith)
  counted_one s u a b x y (few h answer) (few k other) = settled.one s u a b x y answer other

  counted_status : (s : Status) (text : List ℕ) (told : List Place) → CountedReplies tells j s text told
      → IsReplyStatus s
  counted_status s text told (many h is e n) = subst IsReplyStatus (sym e) tt
  counted_status s text told (few h answer) = settled.status s text told answer

  pub counted_settled : IsSettled (CountedReplies tells j)
  counted_settled = record {
    some = counted_some (cases_lt MOST_QUADRUPLES (length (erasing_of j)));
    one = counted_one;
    status = counted_status;
  }

-- ---- the run

module _ (j : Joint) (n : ℕ) (symbols : List ℕ) (first : IsStandardMachine j.first)
    (second : IsStandardMachine j.second) where
  run_some : HasAnswer (TellsErasing j n symbols)
  run_some =
      let found = outcome_exists j.first j.second symbols n in (
        erasing_status found.1,
        outcome_text j found.0 found.1,
        [],
        record {
          steps = found.0;
          outcome = found.1;
          comes_out = found.2;
          status_is = refl;
          text_is = refl;
          silent = refl;
        },
      )

  run_one : IsOneAnswer (TellsErasing j n symbols)
  run_one s u a b x y h k =
      let same = outcome_is_one j.first j.second first second symbols n h.steps k.steps h.outcome k.outcome h.comes_out
      k.comes_out in
      record {
        statuses = h.status_is ∙ ap erasing_status same.1 ∙ sym k.status_is;
        texts = h.text_is ∙ (λ i. outcome_text j (same.0 i) (same.1 i)) ∙ sym k.text_is;
        places = h.silent ∙ sym k.silent;
      }

  outcome_answers : (o : ErasingOutcome) → IsReplyStatus (erasing_status o)
  outcome_answers (Halted work output) = tt
  outcome_answers (Stuck name) = tt
  outcome_answers Running = tt

  run_settled : IsSettled (TellsErasing j n symbols)
  run_settled = record {
    some = run_some;
    one = run_one;
    status = λ s text told h. subst IsReplyStatus (sym h.status_is) (outcome_answers h.outcome);
  }

  long_some : (MOST_COUNT < length symbols) ⊎ (length symbols ≤ MOST_COUNT) → HasAnswer (LongReplies j n symbols)
  long_some (inl more) = (statuses.Size, long_line (length symbols), [], long more refl refl refl)
  long_some (inr less) = let some = (counted_settled (TellsErasing j n symbols) j run_settled).some in
      (some.0, some.1, some.2, short less some.3)

  long_one : IsOneAnswer (LongReplies j n symbols)
  long_one s u a b x y (long h is e n) (long k also f o) = agree statuses.Size s u a b x y e f (is ∙ sym also) n o
  long_one s u a b x y (long h is e n) (short k answer) = absurd (omega arith)
  long_one s u a b x y (short h answer) (long k also f o) = absurd (omega arith)
  long_one s u a b x y (short h answer) (short k other) = (counted_settled (TellsErasing j n symbols) j run_settled).one
      s u a b x y answer other

  long_status : (s : Status) (text : List ℕ) (told : List Place) → LongReplies j n symbols s text told → IsReplyStatus s
  long_status s text told (long h is e n) = subst IsReplyStatus (sym e) tt
  long_status s text told (short h answer) = (counted_settled (TellsErasing j n symbols) j run_settled).status s text
      told answer

  pub long_settled : IsSettled (LongReplies j n symbols)
  long_settled = record {
    some = long_some (cases_lt MOST_COUNT (length symbols));
    one = long_one;
    status = long_status;
  }

-- ---- the commands

pub erase_settled : EraseIsSettled
erase_settled = pair_settled (λ t u. CountedReplies (IsDone (erase_text (joined t u))) (joined t u))
    (λ first second t u both. counted_settled (IsDone (erase_text (joined t u))) (joined t u)
    (done_settled (erase_text (joined t u))))

pub joint_alphabet : (j : Joint) → IsJoint j → HasAlphabet (lettered j)
joint_alphabet j h = record { begins = h.alphabet.begins; apart = h.alphabet.apart }

pub erase_run_settled : EraseRunIsSettled
erase_run_settled word n = pair_settled (λ t u. WordReplies (LongReplies (joined t u) n) (lettered (joined t u)) word)
    (λ first second t u both.
    let standards = both_standard first second t u both in
    lettered_settled (LongReplies (joined t u) n) (lettered (joined t u))
    (joint_alphabet (joined t u) (joint_of_tables t u (reads_table first t both.reads)
    (reads_table second u both.also))) word
    (λ symbols spelled. long_settled (joined t u) n symbols standards.0 standards.1))
