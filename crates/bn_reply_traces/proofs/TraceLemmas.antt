-- The lines of a run are there, and are one; and so is the answer of `trace`.
use Rattle.std.specs.Prelude.{◌≡◌, ◌≢◌, ◌↔◌, ℕ, zero, suc, ◌+◌, ◌<◌, ◌≤◌, ◌⊎◌, ℤ, pos, ◌≤ℤ◌, List, [], ◌∷◌, ◌++◌}
use Rattle.std.specs.Prelude.{All, Bool, true, false, Option, Some, None, codes, decimal, slice_index_or, refl}
use Rattle.std.proofs.Common.{arith, inl, inr, sym, subst, ap, ◌∙◌, append_assoc, append-nil}
use Rattle.std.proofs.lemmas.Int.{ints, by_lt_z}
use Rattle.std.proofs.lemmas.Bool.{cases_eq, cases_lt}
use Rattle.bn_lists.specs.Runs.{Reaches}
use Rattle.bn_lists.proofs.RunsLemmas.{runs_end_once}
use Rattle.bn_machine.specs.Machine.{IsFinal, IsMachineStuck, MachineRunsTo, Moment, Program, start}
use Rattle.bn_machine.specs.Run.{After, Ending, HasEnding, Halted, Stuck, Running}
use Rattle.bn_machine.specs.Run as free
use Rattle.bn_machine.specs.Tape.{Tape, cell}
use Rattle.bn_machine.specs.Window.{anywhere}
use Rattle.bn_machine.proofs.MachineStepLemmas.{final_not_going, final_stuck_or_goes, goes_by_once}
use Rattle.bn_machine.proofs.MachineStepLemmas.{steps_are_functions, stuck_not_going}
use Rattle.bn_machine.proofs.OutcomeLemmas.{ending_exists, ending_once, run_goes_on}
use Rattle.bn_table.specs.Rows.{Named}
use Rattle.bn_reply.specs.Answering.{HasAnswer, IsOneAnswer, IsSettled}
use Rattle.bn_reply.specs.Codes.{IsReplyStatus}
use Rattle.bn_reply.specs.Lines.{line}
use Rattle.bn_reply.specs.TableReply.{WordReplies}
use Rattle.bn_reply.specs.Words.{IsSpelledBy}
use Rattle.bn_reply.proofs.SettledLemmas.{standard_settled, word_settled}
use Rattle.bn_reply.proofs.TableLemmas.{reads_table}
use Rattle.bn_reply_machines.specs.MachineReply.{ending_status}
use Rattle.bn_reply_traces.specs.Extents.{IsFirst, IsLast, symbols_from}
use Rattle.bn_reply_traces.specs.MomentText.{AreLines, IsLineAfter, IsMomentLine, IsNext, IsTapeText, letter_text}
use Rattle.bn_reply_traces.specs.MomentText.{rule_text, tape_text}
use Rattle.bn_reply_traces.specs.Stages.{IsMoved}
use Rattle.bn_reply_traces.specs.TraceReply.{TellsTrace, TraceIsSettled, outcome_line}
use Rattle.bn_reply_traces.proofs.ExtentLemmas.{first_before, first_left, first_of_word, first_stays}
use Rattle.bn_reply_traces.proofs.ExtentLemmas.{last_behind, last_left, last_of_word, last_stays, same_or_not}
use Rattle.bn_reply_traces.proofs.MomentLemmas.{counted}
use Rattle.bn_reply_traces.proofs.StageLemmas.{moves}

-- ---- each moment has a first and a last cell that is shown

pub record Shown (t : Tape) : Type 0 where
  pub first : ℤ
  pub last : ℤ
  pub begins : IsFirst t first
  pub ends : IsLast t last

pub first_again : (t u : Tape) (first left head : ℤ) (is_blank : Bool) → IsMoved t u left is_blank head
    → IsFirst t first →
    (f : ℤ) × IsFirst u f
first_again t u first left head true m f = by (same_or_not first left)
  where
    by : (first ≡ left) ⊎ (first ≢ left) → (f : ℤ) × IsFirst u f
    by (inl at) = (head, first_left t u first left head true m f refl at)
    by (inr apart) =
        by_lt_z head first (λ before. (head, first_before t u first left head true m f before))
        (λ low. (first, first_stays t u first left head true m f (inr apart) low))
first_again t u first left head false m f =
    by_lt_z head first (λ before. (head, first_before t u first left head false m f before))
    (λ low. (first, first_stays t u first left head false m f (inl refl) low))

pub last_again : (t u : Tape) (last left head : ℤ) (is_blank : Bool) → IsMoved t u left is_blank head → IsLast t last →
    (f : ℤ) × IsLast u f
last_again t u last left head true m f = by (same_or_not last left)
  where
    by : (last ≡ left) ⊎ (last ≢ left) → (f : ℤ) × IsLast u f
    by (inl at) = (head, last_left t u last left head true m f refl at)
    by (inr apart) =
        by_lt_z last head (λ behind. (head, last_behind t u last left head true m f behind))
        (λ high. (last, last_stays t u last left head true m f (inr apart) high))
last_again t u last left head false m f =
    by_lt_z last head (λ behind. (head, last_behind t u last left head false m f behind))
    (λ high. (last, last_stays t u last left head false m f (inl refl) high))

pub blank_or_not : (s : ℕ) → (b : Bool) × ((b ≡ true) ↔ (s ≡ 0))
blank_or_not zero = (true, (λ _. refl, λ _. refl))
blank_or_not (suc s) = (false, (λ e. absurd (cc), λ e. absurd (cc)))

shown_more : (p : Program) (c d : Moment) → MachineRunsTo anywhere p c d → Shown c.tape → Shown d.tape
shown_more p c d goes s =
    let b = blank_or_not (cell d.tape c.tape.head) in
    let m = moves p c d c.tape.head d.tape.head b.0 goes refl refl b.1 in
    let f = first_again c.tape d.tape s.first c.tape.head d.tape.head b.0 m s.begins in
    let l = last_again c.tape d.tape s.last c.tape.head d.tape.head b.0 m s.ends in
    record { first = f.0; last = l.0; begins = f.1; ends = l.1 }

shown_run : (p : Program) (i : ℕ) (c d : Moment) → Reaches (MachineRunsTo anywhere p) i c d → Shown c.tape
    → Shown d.tape
shown_run p zero c d run s = subst (λ (m : Moment). Shown m.tape) run s
shown_run p (suc i) c d run s = shown_run p i run.0 d run.2 (shown_more p c run.0 run.1 s)

shown_after : (p : Program) (word : List ℕ) (i : ℕ) (c : Moment) → All (λ s. s ≢ 0) word → After p word i c
    → Shown c.tape
shown_after p word i c letters run = shown_run p i (start p word) c run (record {
  first = pos 0;
  last = _;
  begins = first_of_word word;
  ends = last_of_word word letters;
})

-- ---- each moment has a line

next_some : (p : Program) (c : Moment) → (rule : Option ℕ) × IsNext p c rule
next_some p c = by (final_stuck_or_goes p c)
  where
    by : IsFinal p c ⊎ (IsMachineStuck p c ⊎ ((d : Moment) × MachineRunsTo anywhere p c d))
        → (rule : Option ℕ) × IsNext p c rule
    by (inl final) = (None, inl final)
    by (inr (inl stuck)) = (None, inr stuck)
    by (inr (inr goes)) = (Some goes.1.0, (goes.0, goes.1.1))

line_some : (t : Named) (word : List ℕ) (i : ℕ) (c : Moment) → All (λ s. s ≢ 0) word → After t.machine word i c →
    (text : List ℕ) × IsLineAfter t word i text
line_some t word i c letters run =
    let s = shown_after t.machine word i c letters run in
    let many = counted s.first s.last (s.begins.least s.last s.ends.stands) in
    let rule = next_some t.machine c in
    let tape = tape_text (letter_text t) s.first c.tape.head (symbols_from (cell c.tape) s.first many.0) many.0 in (
      line (decimal i ∷ codes " " ∷ slice_index_or t.names c.state [] ∷ tape ∷ rule_text rule.0 ∷ []),
      (
        c,
        run,
        record {
          tape = tape;
          tape_is = record {
            first = s.first;
            last = s.last;
            count = many.0;
            begins = s.begins;
            ends = s.ends;
            counted = many.1;
            is = refl;
          };
          rule = rule.0;
          next = rule.1;
          is = refl;
        },
      ),
    )

-- a run of one step more has its last step
last_step : (p : Program) (i : ℕ) (c e : Moment) → Reaches (MachineRunsTo anywhere p) (suc i) c e →
    (d : Moment) × Reaches (MachineRunsTo anywhere p) i c d × MachineRunsTo anywhere p d e
last_step p zero c e run = (c, refl, subst (MachineRunsTo anywhere p c) run.2 run.1)
last_step p (suc i) c e run =
    let rest = last_step p i run.0 e run.2 in
    (rest.0, (run.0, run.1, rest.1), rest.2)

lines_some : (t : Named) (word : List ℕ) (i : ℕ) (c : Moment) → All (λ s. s ≢ 0) word → After t.machine word i c →
    (text : List ℕ) × AreLines (IsLineAfter t word) (suc i) text
lines_some t word zero c letters run =
    let last = line_some t word zero c letters run in
    (last.0, ([], last.0, refl, last.1, refl))
lines_some t word (suc i) c letters run =
    let before = last_step t.machine i (start t.machine word) c run in
    let front = lines_some t word i before.0 letters before.1 in
    let last = line_some t word (suc i) c letters run in
    (front.0 ++ last.0, (front.0, last.0, front.1, last.1, refl))

-- ---- and one only

one_first : (t : Tape) (p q : ℤ) → IsFirst t p → IsFirst t q → p ≡ q
one_first t p q a b =
    let low : p ≤ℤ q = a.least q b.stands in
    let high : q ≤ℤ p = b.least p a.stands in
    omega (arith, ints, low, high)

one_last : (t : Tape) (p q : ℤ) → IsLast t p → IsLast t q → p ≡ q
one_last t p q a b =
    let low : p ≤ℤ q = b.greatest p a.stands in
    let high : q ≤ℤ p = a.greatest q b.stands in
    omega (arith, ints, low, high)

pub one_tape_text : (name : ℕ → List ℕ) (t : Tape) (a b : List ℕ) → IsTapeText name t a → IsTapeText name t b → a ≡ b
one_tape_text name t a b x y =
    let first = one_first t x.first y.first x.begins y.begins in
    let last = one_last t x.last y.last x.ends y.ends in
    let many : x.count ≡ y.count = let h = x.counted in let k = y.counted in omega (arith, ints, h, k, first, last) in
    x.is
    ∙ ap (λ (f : ℤ). tape_text name f t.head (symbols_from (cell t) f x.count) x.count) first
    ∙ ap (λ (n : ℕ). tape_text name y.first t.head (symbols_from (cell t) y.first n) n) many
    ∙ sym y.is

one_next : (p : Program) (c : Moment) (a b : Option ℕ) → IsNext p c a → IsNext p c b → a ≡ b
one_next p c None None x y = refl
one_next p c None (Some m) (inl final) y = absurd (final_not_going anywhere p c y.0 final (m, y.1))
one_next p c None (Some m) (inr stuck) y = absurd (stuck_not_going anywhere p c y.0 stuck (m, y.1))
one_next p c (Some n) None x (inl final) = absurd (final_not_going anywhere p c x.0 final (n, x.1))
one_next p c (Some n) None x (inr stuck) = absurd (stuck_not_going anywhere p c x.0 stuck (n, x.1))
one_next p c (Some n) (Some m) x y = ap (λ (k : ℕ). Some k) (goes_by_once anywhere anywhere p n m c x.0 y.0 x.1 y.1).0

one_line : (t : Named) (word : List ℕ) (i : ℕ) (a b : List ℕ) → IsLineAfter t word i a → IsLineAfter t word i b → a ≡ b
one_line t word i a b x y =
    let p = t.machine in
    let same : x.0 ≡ y.0 = runs_end_once (MachineRunsTo anywhere p) (steps_are_functions anywhere p) i (start p word)
    x.0 y.0 x.1 y.1 in
    let moved : IsMomentLine t i y.0 a = subst (λ (c : Moment). IsMomentLine t i c a) same x.2 in
    let k : IsMomentLine t i y.0 b = y.2 in
    let tape = one_tape_text (letter_text t) y.0.tape moved.tape k.tape moved.tape_is k.tape_is in
    let rule = one_next p y.0 moved.rule k.rule moved.next k.next in
    let name = slice_index_or t.names y.0.state [] in
    moved.is
    ∙ ap (λ (z : List ℕ). line (decimal i ∷ codes " " ∷ name ∷ z ∷ rule_text moved.rule ∷ [])) tape
    ∙ ap (λ (z : Option ℕ). line (decimal i ∷ codes " " ∷ name ∷ k.tape ∷ rule_text z ∷ [])) rule
    ∙ sym k.is

pub lines_once : (t : Named) (word : List ℕ) (k : ℕ) (a b : List ℕ) → AreLines (IsLineAfter t word) k a →
    AreLines (IsLineAfter t word) k b → a ≡ b
lines_once t word zero a b x y = x ∙ sym y
lines_once t word (suc k) a b x y =
    let front = lines_once t word k x.0 y.0 x.2 y.2 in
    let last = one_line t word k x.1 y.1 x.3 y.3 in
    x.4 ∙ ap (λ (z : List ℕ). z ++ x.1) front ∙ ap (λ (z : List ℕ). y.0 ++ z) last ∙ sym y.4

-- fewer lines are a front
pub lines_front : (t : Named) (word : List ℕ) (k m : ℕ) (a b : List ℕ) → k ≤ m → AreLines (IsLineAfter t word) k a →
    AreLines (IsLineAfter t word) m b → (tail : List ℕ) × (b ≡ a ++ tail)
lines_front t word k zero a b few x y =
    let none : k ≡ 0 = omega arith in
    ([], lines_once t word zero b a y (subst (λ z. AreLines (IsLineAfter t word) z a) none x) ∙ sym (append-nil a))
lines_front t word k (suc m) a b few x y =
    elim (cases_eq k (suc m)) [
      | inl same ↦
          let moved = subst (λ z. AreLines (IsLineAfter t word) z a) same x in
          ([], lines_once t word (suc m) b a y moved ∙ sym (append-nil a))
      | inr apart ↦
          let rest = lines_front t word k m a y.0 (omega (arith, few, apart)) x y.2 in
          (rest.0 ++ y.1, y.4 ∙ ap (λ (z : List ℕ). z ++ y.1) rest.1 ∙ append_assoc a rest.0 y.1)
    ]

-- a moment that has a line isn't behind the last one
ends_there : (p : Program) (n i j : ℕ) (c d : Moment) (e : Ending) → free.EndsAt p n i c e → j ≤ n → i < j →
    MachineRunsTo anywhere p c d → ⊥
ends_there p n i j c d e (free.halts y final out is) few later goes = final_not_going anywhere p c d final goes
ends_there p n i j c d e (free.sticks stuck is) few later goes = stuck_not_going anywhere p c d stuck goes
ends_there p n i j c d e (free.runs f step all is) few later goes = absurd (omega (arith, few, later, all))

pub lines_few : (t : Named) (word : List ℕ) (n i k : ℕ) (e : Ending) (text : List ℕ) → HasEnding t.machine word n i e →
    k ≤ n + 1 → AreLines (IsLineAfter t word) k text → k ≤ suc i
lines_few t word n i zero e text ending few lines = omega arith
lines_few t word n i (suc j) e text ending few lines = by (cases_lt i j)
  where
    by : (i < j) ⊎ (j ≤ i) → suc j ≤ suc i
    by (inr h) = omega (arith, h)
    by (inl later) =
        let p = t.machine in
        let goes = run_goes_on (MachineRunsTo anywhere p) (steps_are_functions anywhere p) i j (start p word)
        ending.moment lines.3.0
        later ending.run lines.3.1
        in
        absurd (ends_there p n i j ending.moment goes.0 e ending.ends (omega (arith, few)) later goes.1)

-- ---- the answer

ending_answers : (e : Ending) → IsReplyStatus (ending_status e)
ending_answers (Halted y) = tt
ending_answers (Stuck state symbol) = tt
ending_answers Running = tt

module _ (t : Named) (n : ℕ) (symbols : List ℕ) where
  pub trace_some : All (λ s. s ≢ 0) symbols → HasAnswer (TellsTrace t n symbols)
  trace_some letters =
      let found = ending_exists t.machine symbols n in
      let lines = lines_some t symbols found.0 found.2.moment letters found.2.run in (
        ending_status found.1,
        lines.0 ++ outcome_line t found.0 found.1,
        [],
        record {
          steps = found.0;
          ending = found.1;
          comes_out = found.2;
          moments = lines.0;
          lines = lines.1;
          status_is = refl;
          text_is = refl;
          silent = refl;
        },
      )

  trace_one : IsOneAnswer (TellsTrace t n symbols)
  trace_one s u a b x y h k =
      let same = ending_once t.machine symbols n h.steps k.steps h.ending k.ending h.comes_out k.comes_out in
      let moved : AreLines (IsLineAfter t symbols) (suc k.steps) h.moments =
      subst (λ (i : ℕ). AreLines (IsLineAfter t symbols) (suc i) h.moments) same.0 h.lines
      in
      let moments = lines_once t symbols (suc k.steps) h.moments k.moments moved k.lines in
      record {
        statuses = h.status_is ∙ ap ending_status same.1 ∙ sym k.status_is;
        texts = h.text_is ∙ (λ i. moments i ++ outcome_line t (same.0 i) (same.1 i)) ∙ sym k.text_is;
        places = h.silent ∙ sym k.silent;
      }

  trace_settled : All (λ s. s ≢ 0) symbols → IsSettled (TellsTrace t n symbols)
  trace_settled letters = record {
    some = trace_some letters;
    one = trace_one;
    status = λ s text told h. subst IsReplyStatus (sym h.status_is) (ending_answers h.ending);
  }

-- none of the symbols that spell a word is the blank
pub letters_of_word : (t : Named) (word symbols : List ℕ) → IsSpelledBy t word symbols → All (λ s. s ≢ 0) symbols
letters_of_word t word symbols h = λ k d inside. (h.symbols_known k d inside).letter

pub all_settled : TraceIsSettled
all_settled word n bytes =
    standard_settled (λ t. WordReplies (TellsTrace t n) t word) bytes
    (λ t h. word_settled (TellsTrace t n) t (reads_table bytes t h.reads) word
    (λ symbols spelled. trace_settled t n symbols (letters_of_word t word symbols spelled)))
