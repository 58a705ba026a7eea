-- The clauses of the top call, from how the command ends that reads the input.
use Rattle.std.specs.Prelude.{◌≡◌, ◌≢◌, ℕ, true, ◌<◌, ◌≤◌, List, [], length, Some, IfSome, ◌⊎◌, refl}
use Rattle.std.proofs.Common.{arith, inl, inr, sym, subst, ◌∙◌}
use Rattle.bn_circuits.specs.declared.place.Place.{Place}
use Rattle.bn_io.specs.Faults.{Rose}
use Rattle.bn_io.specs.Told.{Grows}
use Rattle.bn_circuits.specs.Watching.{Hears}
use Rattle.bn_words.specs.Requests.{Request, HasForm, reads_input}
use Rattle.bn_reply.specs.Codes.{IsAnswer, IsReplyStatus}
use Rattle.bn_reply.specs.Ends as written
use Rattle.bn_reply.specs.Outside.{Outside, GaveAll, GaveMore, IsLater}
use Rattle.bn_reply.specs.Streams.{AnswerEnds, EndsAfter, Gives, Input, StreamEnds, read_fault_text, size_text}
use Rattle.bn_reply.specs.Streams.{Whole, TooLong, Failed, Unread, whole, cut, wanting, unbegun}
use Rattle.bn_reply.specs.declared.limits.TheConstants.{MOST_INPUT_BYTES}
use Rattle.bn_reply.specs.declared.status.Status.{Status}
use Rattle.bn_reply.specs.declared.status.Status.TheVariants.{Usage, Size, ReadFault, WriteFault, NoMemory}
use Rattle.bn_reply.proofs.CountLemmas.{counts_as}
use Rattle.bn_reply.proofs.ReplyLemmas.{begun_as, broken_as}
use Rattle.bn_reply.proofs.StreamLemmas.{at_bytes, at_longer, read_to_end}
use Rattle.bn_top.specs.Answers.{Answers, Replies, replied, too_long}
use Rattle.bn_top.specs.Clauses.{ClausesApart}
use Rattle.bn_top.specs.Outside.{FailsReading, ToldReadFault}
use Rattle.bn_top.specs.Told.{IsAnswered, IsBegun, IsBroken, IsReadFaultCut}
use Rattle.bn_top.proofs.Commands.{settled}
use Rattle.bn_top.proofs.EndLemmas.{for_any, needs_input, reply_answers}

not_more : (limit count : ℕ) → count ≤ limit → limit < count → ⊥
not_more limit count few more = omega (arith, few, more)

module _ (words : List (List ℕ)) (request : Request) (form : HasForm words request) (reads : reads_input request ≡ true)
    (result : Status)
    (b a : Outside) (later : IsLater (FailsReading result b a) (result ≡ WriteFault) b a) where
  abbrev Sized : List ℕ → Type 0
  Sized bytes = result ≡ Size → MOST_INPUT_BYTES < length bytes → GaveMore b.left a.left MOST_INPUT_BYTES

  abbrev ReadWhole : List ℕ → Type 0
  ReadWhole bytes = length bytes ≤ MOST_INPUT_BYTES → a.left ≡ Some []

  abbrev Answered : List ℕ → Type 0
  Answered bytes = IsAnswered words bytes result b.taken a.taken b.told a.told

  abbrev Begun : List ℕ → Type 0
  Begun bytes = IsBegun words bytes b.taken a.taken b.told a.told

  abbrev Broken : List ℕ → Type 0
  Broken bytes = IsBroken words bytes b.taken a.taken b.told a.told

  -- ---- by what the call answers

  answer_clauses : IsAnswer result → result ≢ Usage → IfSome b.left Answered → IfSome b.left ReadWhole
      → IfSome b.left Sized →
      ClausesApart words result b a
  answer_clauses is other given ended sized = record {
    answered = λ _. given;
    complete = λ _ _. inl is;
    usage_only = λ e. absurd (other e);
    usage = λ none. absurd (none request form);
    untold = λ none. absurd (none request form);
    inputless_ends = λ none. absurd (needs_input words request form reads none);
    read = λ _ _ _. ended;
    size = λ _. sized;
    read_cause = λ e. absurd (subst IsAnswer e is);
    read_fault = λ e. absurd (subst IsAnswer e is);
    read_fault_told = λ e. absurd (subst IsAnswer e is);
    write_cause = λ e. absurd (subst IsAnswer e is);
    write_fault = λ e. absurd (subst IsAnswer e is);
    no_memory = λ e. absurd (subst IsAnswer e is);
    later_source = later.read;
    later_sink = later.write;
  }

  -- a status of a fault is no other
  no_size : (result ≡ Size → ⊥) → IfSome b.left Sized
  no_size other = for_any b.left Sized (λ bytes e more. absurd (other e))

  write_fault_clauses : result ≡ WriteFault → Rose b.write_faults a.write_faults →
      IsReadFaultCut b.read_faults a.read_faults b.taken a.taken b.told a.told ⊎ IfSome b.left Begun
      → ClausesApart words result b a
  write_fault_clauses is rose part = record {
    answered = λ answer. absurd (subst IsAnswer is answer);
    complete = λ _ none. absurd (none rose);
    usage_only = λ e. absurd (not_usage (sym is ∙ e));
    usage = λ none. absurd (none request form);
    untold = λ none. absurd (none request form);
    inputless_ends = λ none. absurd (needs_input words request form reads none);
    read = λ _ answer. absurd (subst IsAnswer is answer);
    size = λ _. no_size (λ e. not_size (sym is ∙ e));
    read_cause = λ e. absurd (not_read_fault (sym is ∙ e));
    read_fault = λ e. absurd (not_read_fault (sym is ∙ e));
    read_fault_told = λ e. absurd (not_read_fault (sym is ∙ e));
    write_cause = λ _. rose;
    write_fault = λ _. part;
    no_memory = λ e. absurd (not_no_memory (sym is ∙ e));
    later_source = later.read;
    later_sink = later.write;
  }
    where
      not_usage : WriteFault ≡ Usage → ⊥
      not_usage e = cc

      not_size : WriteFault ≡ Size → ⊥
      not_size e = cc

      not_read_fault : WriteFault ≡ ReadFault → ⊥
      not_read_fault e = cc

      not_no_memory : WriteFault ≡ NoMemory → ⊥
      not_no_memory e = cc

  no_memory_clauses : result ≡ NoMemory → IfSome b.left Broken → ClausesApart words result b a
  no_memory_clauses is broken = record {
    answered = λ answer. absurd (subst IsAnswer is answer);
    complete = λ _ _. inr is;
    usage_only = λ e. absurd (not_usage (sym is ∙ e));
    usage = λ none. absurd (none request form);
    untold = λ none. absurd (none request form);
    inputless_ends = λ none. absurd (needs_input words request form reads none);
    read = λ _ answer. absurd (subst IsAnswer is answer);
    size = λ _. no_size (λ e. not_size (sym is ∙ e));
    read_cause = λ e. absurd (not_read_fault (sym is ∙ e));
    read_fault = λ e. absurd (not_read_fault (sym is ∙ e));
    read_fault_told = λ e. absurd (not_read_fault (sym is ∙ e));
    write_cause = λ e. absurd (not_write_fault (sym is ∙ e));
    write_fault = λ e. absurd (not_write_fault (sym is ∙ e));
    no_memory = λ _. broken;
    later_source = later.read;
    later_sink = later.write;
  }
    where
      not_usage : NoMemory ≡ Usage → ⊥
      not_usage e = cc

      not_size : NoMemory ≡ Size → ⊥
      not_size e = cc

      not_read_fault : NoMemory ≡ ReadFault → ⊥
      not_read_fault e = cc

      not_write_fault : NoMemory ≡ WriteFault → ⊥
      not_write_fault e = cc

  read_fault_clauses : result ≡ ReadFault → Rose b.read_faults a.read_faults → Grows b.taken a.taken read_fault_text
      → Hears b.told [] a.told →
      ClausesApart words result b a
  read_fault_clauses is rose grows hears = record {
    answered = λ answer. absurd (subst IsAnswer is answer);
    complete = λ none _. absurd (none rose);
    usage_only = λ e. absurd (not_usage (sym is ∙ e));
    usage = λ none. absurd (none request form);
    untold = λ none. absurd (none request form);
    inputless_ends = λ none. absurd (needs_input words request form reads none);
    read = λ _ answer. absurd (subst IsAnswer is answer);
    size = λ _. no_size (λ e. not_size (sym is ∙ e));
    read_cause = λ _. rose;
    read_fault = λ _. grows;
    read_fault_told = λ _. hears;
    write_cause = λ e. absurd (not_write_fault (sym is ∙ e));
    write_fault = λ e. absurd (not_write_fault (sym is ∙ e));
    no_memory = λ e. absurd (not_no_memory (sym is ∙ e));
    later_source = later.read;
    later_sink = later.write;
  }
    where
      not_usage : ReadFault ≡ Usage → ⊥
      not_usage e = cc

      not_size : ReadFault ≡ Size → ⊥
      not_size e = cc

      not_write_fault : ReadFault ≡ WriteFault → ⊥
      not_write_fault e = cc

      not_no_memory : ReadFault ≡ NoMemory → ⊥
      not_no_memory e = cc

  -- ---- by what reading came to

  module _ (bytes : List ℕ) (all : GaveAll b.left a.left bytes) (few : length bytes ≤ MOST_INPUT_BYTES) where
    in_answer : (s : Status) (text : List ℕ) (places : List Place) → Replies request bytes s text places
        → Answers words bytes s text places
    in_answer s text places right = replied request form reads few right

    whole_clauses : AnswerEnds (Replies request bytes) result b.taken a.taken b.write_faults a.write_faults b.told
        a.told → ClausesApart words result b a
    whole_clauses (whole text places right grows hears) =
        let status = (settled words request form bytes).status result text places right in
        answer_clauses (reply_answers result status) (λ e. subst IsReplyStatus e status)
        (at_bytes b.left a.left bytes Answered all
        (record {
          text = text;
          places = places;
          answers = in_answer result text places right;
          grows = grows;
          hears = hears;
        }))
        (read_to_end b.left a.left bytes all)
        (at_bytes b.left a.left bytes Sized all (λ _ more. absurd (not_more MOST_INPUT_BYTES (length bytes) few more)))
    whole_clauses (cut is rose part) =
        write_fault_clauses is rose (inr (at_bytes b.left a.left bytes Begun all
        (begun_as (Replies request bytes) (Answers words bytes) in_answer b.taken a.taken b.told a.told part)))
    whole_clauses (wanting is broken) =
        no_memory_clauses is (at_bytes b.left a.left bytes Broken all
        (broken_as (Replies request bytes) (Answers words bytes) in_answer b.taken a.taken b.told a.told broken))

  long_clauses : GaveMore b.left a.left MOST_INPUT_BYTES →
      written.Finishes Size result b.taken a.taken b.write_faults a.write_faults size_text → Hears b.told [] a.told
      → ClausesApart words result b a
  long_clauses more (written.whole is grows) hears =
      answer_clauses (subst IsAnswer (sym is) tt) (λ e. not_usage (sym is ∙ e))
      (at_longer b.left a.left MOST_INPUT_BYTES Answered more
      (λ bytes longer. record {
        text = size_text;
        places = [];
        answers = too_long request form reads longer is refl refl;
        grows = grows;
        hears = hears;
      }))
      (at_longer b.left a.left MOST_INPUT_BYTES ReadWhole more (λ bytes longer few. absurd
      (not_more MOST_INPUT_BYTES (length bytes) few longer)))
      (for_any b.left Sized (λ bytes _ _. more))
    where
      not_usage : Size ≡ Usage → ⊥
      not_usage e = cc
  long_clauses more (written.cut is rose grows) hears =
      write_fault_clauses is rose (inr (at_longer b.left a.left MOST_INPUT_BYTES Begun more (λ bytes longer. record {
        status = Size;
        text = size_text;
        places = [];
        right = too_long request form reads longer refl refl refl;
        grows = grows;
        front = [];
        rest = [];
        split = refl;
        hears = hears;
      })))

  failed_clauses : Rose b.read_faults a.read_faults →
      written.Finishes ReadFault result b.taken a.taken b.write_faults a.write_faults read_fault_text
      → Hears b.told [] a.told → ClausesApart words result b a
  failed_clauses rose (written.whole is grows) hears = read_fault_clauses is rose grows hears
  failed_clauses rose (written.cut is fell grows) hears = write_fault_clauses is fell
      (inl (record { source = rose; grows = grows; hears = hears }))

  unread_clauses : (result ≡ NoMemory) × Grows b.taken a.taken [] × Hears b.told [] a.told
      → ClausesApart words result b a
  unread_clauses ends = no_memory_clauses ends.0 (for_any b.left Broken (λ bytes. unbegun ends.1 ends.2))

  input_clauses : (input : Input) → Gives input b a → EndsAfter input (Replies request) result b a
      → ClausesApart words result b a
  input_clauses (Whole bytes) gives ends = whole_clauses bytes gives.0 gives.1 ends
  input_clauses TooLong gives ends = long_clauses gives ends.0 ends.1
  input_clauses Failed gives ends = failed_clauses gives ends.0 ends.1
  input_clauses Unread gives ends = unread_clauses ends

-- ---- what is counted

-- how a line ends that tells that reading failed
failure_told : (result : Status) (b a : Outside)
    → written.Finishes ReadFault result b.taken a.taken b.write_faults a.write_faults read_fault_text
    → Hears b.told [] a.told → ToldReadFault result b a
failure_told result b a (written.whole is grows) hears =
    let gave : ToldReadFault ReadFault b a = record { grows = grows; hears = hears } in
    subst (λ s. ToldReadFault s b a) (sym is) gave
failure_told result b a (written.cut is rose front) hears =
    let cut_off : ToldReadFault WriteFault b a =
    (rose, (front.0, front.1, front.2, record { grows = front.3; hears = hears })) in
    subst (λ s. ToldReadFault s b a) (sym is) cut_off

-- where reading came to a failure, the call fails in reading
failed_reading : (replies : List ℕ → Status → List ℕ → List Place → Type 0) (result : Status) (b a : Outside)
    (input : Input) → Gives input b a → EndsAfter input replies result b a → input ≡ Failed → FailsReading result b a
failed_reading replies result b a (Whole bytes) gives ends is = absurd (cc)
failed_reading replies result b a TooLong gives ends is = absurd (cc)
failed_reading replies result b a Failed gives ends is =
    record { read = gives; told = failure_told result b a ends.0 ends.1 }
failed_reading replies result b a Unread gives ends is = absurd (cc)

later_call : (replies : List ℕ → Status → List ℕ → List Place → Type 0) (result : Status) (b a : Outside)
    → StreamEnds replies result b a → IsLater (FailsReading result b a) (result ≡ WriteFault) b a
later_call replies result b a h = record {
  read = counts_as (h.input ≡ Failed) (FailsReading result b a) b.read_faults a.read_faults
      (failed_reading replies result b a h.input h.gives h.ends) h.later.read;
  write = h.later.write;
}

pub stream_clauses : (words : List (List ℕ)) (request : Request) → HasForm words request → reads_input request ≡ true
    → (result : Status) (b a : Outside) →
    StreamEnds (Replies request) result b a → ClausesApart words result b a
stream_clauses words request form reads result b a h =
    input_clauses words request form reads result b a (later_call (Replies request) result b a h) h.input h.gives h.ends
