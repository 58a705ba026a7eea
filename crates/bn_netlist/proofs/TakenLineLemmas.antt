-- A line at a time: what refusing a line says of the whole text.
use Rattle.std.specs.Prelude.{◌≡◌, ◌≢◌, ℕ, ◌+◌, ◌<◌, List, ◌∷◌, ◌++◌, length, Option, Some, None, refl}
use Rattle.std.proofs.Common.{arith, sym, ap, subst, ◌∙◌}
use Rattle.bn_base.specs.Line.{IsInLine}
use Rattle.bn_base.proofs.LineLemmas.{lines-agree, cut-lines-differ}
use Rattle.bn_netlist_laws.specs.Sentences.{Sentence, sentence_text, lines_text}
use Rattle.bn_netlist_laws.specs.Faults.{Fault, malformed, too_many, no_element, out_of_order, end_wired, left_wired}
use Rattle.bn_netlist_laws.specs.Faults.{start_fed, second_source, spelled_out, version_in, kind_after, header_lines}
use Rattle.bn_netlist_laws.specs.Faults.{count_in, IsNext, AreFaultless, IsMalformed, IsFaulty, BeginsWithFault}
use Rattle.bn_netlist_laws.specs.Faults.{IsFirstBadLine, IsFirstFault}
use Rattle.bn_netlist_laws.specs.Saying.{said}
use Rattle.bn_netlist_laws.proofs.SentenceLemmas.{said-again, sentence_text-in_line, lines-are-short}
use Rattle.bn_netlist_laws.proofs.DecideLemmas.{said-takes, is_line_fault}
use Rattle.bn_netlist.specs.Drafting.{refusal_of}
use Rattle.bn_netlist.specs.NetText.{IsTextRefusal}
use Rattle.bn_netlist.specs.LineReading.{no_memory, no_form, has_fault, RefusedLinesRefuse, RestsAreMalformed}
use Rattle.bn_netlist.specs.LineReading.{LinesBehindAreMalformed, LinesAreRead, OtherLinesAreNot, LongLinesAreNot}

bad_line : (before : List Sentence) (left : List ℕ) (fault : Fault) → AreFaultless before
    → BeginsWithFault before left fault → IsFirstBadLine (lines_text before ++ left) (length before + 1) fault
bad_line before left fault faultless here = record {
  before = before;
  left = left;
  counted = refl;
  begins = refl;
  faultless = faultless;
  here = here;
}

not_formed : (before : List Sentence) (line rest : List ℕ) → IsInLine line
    → length before < header_lines + count_in before → ((x : Sentence) → IsNext before x → line ≢ sentence_text x)
    → IsMalformed before (line ++ 10 ∷ rest)
not_formed before line rest in_line room unsaid =
    record {
      unsaid = λ x behind next e. unsaid x next (lines-agree line (sentence_text x) rest behind in_line
          (sentence_text-in_line x next.sayable) e).0;
      unfinished = λ whole. absurd (omega arith);
    }

-- a fault of a line that has its form is refused by its name
faulty_refusal : (before : List Sentence) (left : List ℕ) (fault : Fault) (n : ℕ) → fault ≢ malformed
    → fault ≢ spelled_out → AreFaultless before → IsFaulty before left fault → n ≡ length before + 1
    → IsTextRefusal (lines_text before ++ left) (refusal_of fault n)
faulty_refusal before left malformed n formed line faultless is counted = absurd (formed refl)
faulty_refusal before left too_many n formed line faultless is counted =
    subst (λ (m : ℕ). IsFirstFault (lines_text before ++ left) m too_many) (sym counted)
    (bad_line before left too_many faultless is)
faulty_refusal before left no_element n formed line faultless is counted =
    subst (λ (m : ℕ). IsFirstFault (lines_text before ++ left) m no_element) (sym counted)
    (bad_line before left no_element faultless is)
faulty_refusal before left out_of_order n formed line faultless is counted =
    subst (λ (m : ℕ). IsFirstFault (lines_text before ++ left) m out_of_order) (sym counted)
    (bad_line before left out_of_order faultless is)
faulty_refusal before left end_wired n formed line faultless is counted =
    subst (λ (m : ℕ). IsFirstFault (lines_text before ++ left) m end_wired) (sym counted)
    (bad_line before left end_wired faultless is)
faulty_refusal before left left_wired n formed line faultless is counted =
    subst (λ (m : ℕ). IsFirstFault (lines_text before ++ left) m left_wired) (sym counted)
    (bad_line before left left_wired faultless is)
faulty_refusal before left start_fed n formed line faultless is counted =
    subst (λ (m : ℕ). IsFirstFault (lines_text before ++ left) m start_fed) (sym counted)
    (bad_line before left start_fed faultless is)
faulty_refusal before left second_source n formed line faultless is counted =
    subst (λ (m : ℕ). IsFirstFault (lines_text before ++ left) m second_source) (sym counted)
    (bad_line before left second_source faultless is)
faulty_refusal before left spelled_out n formed line faultless is counted = absurd (line refl)

pub refused-lines-refuse : RefusedLinesRefuse
refused-lines-refuse before line rest r faultless in_line room (no_memory is) =
    subst (IsTextRefusal (lines_text before ++ (line ++ 10 ∷ rest))) (sym is) tt
refused-lines-refuse before line rest r faultless in_line room (no_form is unsaid) =
    subst (IsTextRefusal (lines_text before ++ (line ++ 10 ∷ rest))) (sym is)
    (bad_line before (line ++ 10 ∷ rest) malformed faultless (not_formed before line rest in_line room unsaid))
refused-lines-refuse before line rest r faultless in_line room (has_fault x fault next written has is) =
    let kinds = is_line_fault before x fault has in
    subst (IsTextRefusal (lines_text before ++ (line ++ 10 ∷ rest))) (sym is)
    (faulty_refusal before (line ++ 10 ∷ rest) fault (length before + 1) kinds.0 kinds.1 faultless
    (record {
      says = x;
      behind = rest;
      begins = ap (λ (bytes : List ℕ). bytes ++ 10 ∷ rest) written;
      next = next;
      has = has;
    }) refl)

pub rests-are-malformed : RestsAreMalformed
rests-are-malformed before left faultless in_line some =
    bad_line before left malformed faultless (record {
      unsaid = λ x behind next. cut-lines-differ left (sentence_text x) behind in_line;
      unfinished = some;
    })

pub lines-behind-are-malformed : LinesBehindAreMalformed
lines-behind-are-malformed before left faultless complete some =
    bad_line before left malformed faultless
    (record {
      unsaid = λ x behind next. absurd (let room : length before
          < header_lines + count_in before = next.room in omega arith);
      unfinished = λ _. some;
    })

pub lines-are-read : LinesAreRead
lines-are-read before line x room is =
    let says = said-takes (version_in before) (kind_after before) line x (omega arith) is in
    (record { sayable = says.sayable; kind = says.kind; version = says.version; room = room }, says.written)

none_said : (x : Sentence) → ◌≡◌ {A = Option Sentence} None (Some x) → ⊥
none_said x e = cc

pub other-lines-are-not : OtherLinesAreNot
other-lines-are-not before line none x next written =
    let again : said (version_in before) (kind_after before) line ≡ Some x =
    (λ i. said (version_in before) (sym next.kind i) (written i))
    ∙ said-again (version_in before) x next.sayable next.version in
    none_said x (sym none ∙ again)

pub long-lines-are-not : LongLinesAreNot
long-lines-are-not before line long x next written =
    let short = lines-are-short x next.sayable in
    let same : length line ≡ length (sentence_text x) = ap length written in
    omega arith
