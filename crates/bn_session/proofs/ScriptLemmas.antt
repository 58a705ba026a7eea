-- What reading the next line of a script gives: its command, or the fault with which what is left begins.
use Rattle.std.specs.Prelude.{◌≡◌, ◌≢◌, ℕ, ◌+◌, ◌<◌, List, [], ◌∷◌, ◌++◌, length, fold, Option, Some, None, option_map}
use Rattle.std.specs.Prelude.{Bool, is_some, refl}
use Rattle.std.proofs.Common.{sym, ap, subst, ◌∙◌, arith, append_assoc}
use Rattle.std.proofs.lemmas.List.{append-nil, length-append}
use Rattle.std.proofs.lemmas.List.Sums.{fold-append}
use Rattle.bn_base.specs.Line.{IsInLine, IsNextLine}
use Rattle.bn_base.specs.declared.lines.NextLine.{NextLine}
use Rattle.bn_base.specs.declared.lines.NextLine.TheVariants.{Whole, Cut}
use Rattle.std.specs.Borrow.{Bor}
use Rattle.bn_session.specs.declared.sentence.Sentence.{Sentence as Kept}
use Rattle.bn_base.proofs.LineLemmas.{lines-agree, cut-lines-differ}
use Rattle.bn_session.specs.Sentences.{ScriptSentence, Step, Back, Go, Rev, BreakState, BreakElement, BreakLine}
use Rattle.bn_session.specs.Sentences.{Drop, View}
use Rattle.bn_session.specs.Sentences.{IsSayableInScript, script_sentence_text, script_text}
use Rattle.bn_session.specs.Reading.{said, sentence_in}
use Rattle.bn_session.specs.Labels.{standing_after, standing_by}
use Rattle.bn_session.specs.Scripts.{Names, Asks, AskFor, IsScript, IsFirstScriptFault, ScriptFault, malformed}
use Rattle.bn_session.specs.Scripts.{no_state}
use Rattle.bn_session.specs.Scripts.{same_break, no_break, IsFaultyLine, IsMalformedLine, BeginsWithFaultyLine}
use Rattle.bn_session.specs.Scripts.{IsRefusalOf}
use Rattle.bn_session.specs.Progress.{AtLine, HasRead, IsAsked, IsLineFault, AsksNext}
use Rattle.bn_session.specs.declared.command.Command.{Command}
use Rattle.bn_session.specs.declared.refusal.ScriptRefusal.{ScriptRefusal}
use Rattle.bn_session.specs.declared.refusal.ScriptRefusal.TheVariants.{Form, NoState, SameBreak, NoBreak, NoMemory}
use Rattle.bn_session.proofs.ReadingLemmas.{IsSaid, sentence_in-takes, sentence_in-again}
use Rattle.bn_session.proofs.LineLemmas.{sentence_text-in_line}

-- a refusal that names this line, and a fault of which something holds
pub refusal_weaker : (P Q : ScriptFault → Type 0) (number : ℕ) (r : ScriptRefusal)
    → ((fault : ScriptFault) → P fault → Q fault) → IsRefusalOf (AtLine number P) r → IsRefusalOf (AtLine number Q) r
refusal_weaker P Q number (Form n) then h = (h.0, then malformed h.1)
refusal_weaker P Q number (NoState n) then h = (h.0, then no_state h.1)
refusal_weaker P Q number (SameBreak n) then h = (h.0, then same_break h.1)
refusal_weaker P Q number (NoBreak n) then h = (h.0, then no_break h.1)
refusal_weaker P Q number NoMemory then h = tt

-- nothing is left, or a line without its byte 10
pub cut_is_malformed : (names : Names) (left : List ℕ) → IsInLine left → left ≢ [] → IsMalformedLine names left
cut_is_malformed names left cut some = record {
  some = some;
  unsaid = λ s behind sayable. cut-lines-differ left (script_sentence_text s) behind cut;
}

-- a line that says nothing
pub unsaid : (of_machine : Bool) (line : List ℕ) → sentence_in of_machine line ≡ None → (s : ScriptSentence)
    → IsSayableInScript of_machine s → line ≢ script_sentence_text s
unsaid of_machine line none s sayable e =
    clash (sym none ∙ ap (sentence_in of_machine) e ∙ sentence_in-again of_machine s sayable)
  where
    clash : None ≡ Some s → ⊥
    clash e = cc

-- the fault of a whole line is that with which the bytes begin
pub line_fault_begins : (names : Names) (standing : List (List ℕ)) (left line rest : List ℕ) (fault : ScriptFault)
    → IsInLine line
    → left ≡ line ++ 10 ∷ rest → IsLineFault names standing line fault → BeginsWithFaultyLine names standing left fault
line_fault_begins names standing left line rest malformed in_line begins h =
    record { some = some line begins; unsaid = unsaid_left }
  where
    some : (line : List ℕ) → left ≡ line ++ 10 ∷ rest → left ≢ []
    some [] begins none = cc
    some (x ∷ xs) begins none = cc

    unsaid_left : (s : ScriptSentence) (behind : List ℕ) → IsSayableInScript (is_some names) s
        → left ≢ script_sentence_text s ++ 10 ∷ behind
    unsaid_left s behind sayable e = h s sayable (lines-agree line (script_sentence_text s) rest behind in_line
        (sentence_text-in_line (is_some names) s sayable) (sym begins ∙ e)).0
line_fault_begins names standing left line rest no_state in_line begins h =
    record {
      says = h.says;
      behind = rest;
      begins = begins ∙ ap (λ l. l ++ 10 ∷ rest) h.spelled;
      sayable = h.sayable;
      faulty = h.faulty;
    }
line_fault_begins names standing left line rest same_break in_line begins h =
    record {
      says = h.says;
      behind = rest;
      begins = begins ∙ ap (λ l. l ++ 10 ∷ rest) h.spelled;
      sayable = h.sayable;
      faulty = h.faulty;
    }
line_fault_begins names standing left line rest no_break in_line begins h =
    record {
      says = h.says;
      behind = rest;
      begins = begins ∙ ap (λ l. l ++ 10 ∷ rest) h.spelled;
      sayable = h.sayable;
      faulty = h.faulty;
    }

-- a line that asks for a command
pub line_asks : (names : Names) (standing : List (List ℕ)) (left line rest : List ℕ) (x : Command)
    (after : List (List ℕ))
    → left ≡ line ++ 10 ∷ rest → IsAsked names standing line x after → AsksNext names standing left x rest after
line_asks names standing left line rest x after begins h =
    record { says = h.says; begins = begins ∙ ap (λ l. l ++ 10 ∷ rest) h.spelled; sayable = h.sayable; asked = h.asked }

-- ---- what the program keeps

-- of the next line, by the answer
pub whole_line : (bytes rest : List ℕ) (o : NextLine) (line : Bor (List ℕ)) → o ≡ Whole line → IsNextLine bytes o rest
    → IsInLine line.now × (bytes ≡ line.now ++ 10 ∷ rest)
whole_line bytes rest o line e h = subst (λ x. IsNextLine bytes x rest) e h

pub cut_line : (names : Names) (bytes rest : List ℕ) (o : NextLine) (line : Bor (List ℕ)) → o ≡ Cut line
    → IsNextLine bytes o rest → IsMalformedLine names bytes
cut_line names bytes rest o line e h =
    let cut = subst (λ x. IsNextLine bytes x rest) e h in
    cut_is_malformed names bytes (subst IsInLine (sym cut.1) cut.0) cut.2

-- of a sentence
pub said_some : (of_machine : Bool) (line : List ℕ) (o : Option Kept) (s : Kept) → o ≡ Some s
    → option_map said o ≡ sentence_in of_machine line → IsSaid of_machine line (said s)
said_some of_machine line o s is read = sentence_in-takes of_machine line (said s) (sym read ∙ ap (option_map said) is)

pub said_none : (of_machine : Bool) (line : List ℕ) (o : Option Kept) → o ≡ None
    → option_map said o ≡ sentence_in of_machine line → sentence_in of_machine line ≡ None
said_none of_machine line o is read = sym read ∙ ap (option_map said) is

-- of a fault
formed : (names : Names) (standing : List (List ℕ)) (s : ScriptSentence) → IsFaultyLine names standing s malformed → ⊥
formed names standing (Step e) h = h
formed names standing (Back e) h = h
formed names standing (Go e) h = h
formed names standing (Rev e) h = h
formed names standing (BreakState label name) h = h
formed names standing (BreakElement label e) h = h
formed names standing (BreakLine label e l) h = h
formed names standing (Drop label) h = h
formed names standing View h = h

pub faulty_line : (names : Names) (standing : List (List ℕ)) (line : List ℕ) (s : ScriptSentence) (fault : ScriptFault)
    → IsSaid (is_some names) line s → IsFaultyLine names standing s fault → IsLineFault names standing line fault
faulty_line names standing line s malformed is h = absurd (formed names standing s h)
faulty_line names standing line s no_state is h = record {
  says = s;
  spelled = is.spelled;
  sayable = is.sayable;
  faulty = h;
}
faulty_line names standing line s same_break is h = record {
  says = s;
  spelled = is.spelled;
  sayable = is.sayable;
  faulty = h;
}
faulty_line names standing line s no_break is h = record {
  says = s;
  spelled = is.spelled;
  sayable = is.sayable;
  faulty = h;
}

-- ---- how far a script has been read

-- one more sentence and the command for which it asks
asked_more : (names : Names) (standing : List (List ℕ)) (ss : List ScriptSentence) (xs : List Command)
    (s : ScriptSentence)
    (x : Command) → AskFor names standing ss xs → IsSayableInScript (is_some names) s
    → Asks names (fold standing_after standing xs) s x
    → AskFor names standing (ss ++ s ∷ []) (xs ++ x ∷ [])
asked_more names standing [] xs s x none sayable asked =
    let P : List Command → Type 0 = λ ys. AskFor names standing (s ∷ []) (ys ++ x ∷ []) in
    let Q : List Command → Type 0 = λ ys. Asks names (fold standing_after standing ys) s x in
    subst P (sym none) (x, [], refl, sayable, subst Q none asked, refl)
asked_more names standing (t ∷ ss) xs s x (y, more, is, first, asks, rest) sayable asked =
    let Q : List Command → Type 0 = λ ys. Asks names (fold standing_after standing ys) s x in (
      y,
      more ++ x ∷ [],
      ap (λ ys. ys ++ x ∷ []) is,
      first,
      asks,
      asked_more names (standing_after standing y) ss more s x rest sayable (subst Q is asked),
    )

lines_text-append : (ss ts : List ScriptSentence) → script_text (ss ++ ts) ≡ script_text ss ++ script_text ts
lines_text-append [] ts = refl
lines_text-append (s ∷ ss) ts = ap (λ r. script_sentence_text s ++ 10 ∷ r) (lines_text-append ss ts)
    ∙ sym (append_assoc (script_sentence_text s) (10 ∷ script_text ss) (script_text ts))

pub none_read : (names : Names) (bytes : List ℕ) → HasRead names bytes bytes []
none_read names bytes = record { sentences = []; begins = refl; asked = refl; counted = refl }

pub one_more_read : (names : Names) (standing : List (List ℕ)) (bytes left behind : List ℕ) (xs : List Command)
    (x : Command)
    (after : List (List ℕ)) → HasRead names bytes left xs → standing ≡ standing_by xs
    → AsksNext names standing left x behind after
    → HasRead names bytes behind (xs ++ x ∷ []) × (after ≡ standing_by (xs ++ x ∷ []))
one_more_read names standing bytes left behind xs x after has stand next = (
  record {
    sentences = has.sentences ++ next.says ∷ [];
    begins = has.begins ∙ ap (λ r. script_text has.sentences ++ r) next.begins ∙ text;
    asked = asked_more names [] has.sentences xs next.says x has.asked next.sayable
        (subst (λ t. Asks names t next.says x) stand next.asked.0);
    counted = let a = length-append has.sentences (next.says ∷ []) in let b = length-append xs (x ∷ []) in let n =
        has.counted in omega arith;
  },
  next.asked.1 ∙ ap (λ t. standing_after t x) stand ∙ sym (fold-append standing_after [] xs (x ∷ [])),
)
  where
    text : script_text has.sentences ++ (script_sentence_text next.says ++ 10 ∷ behind)
        ≡ script_text (has.sentences ++ next.says ∷ []) ++ behind
    text =
        ap (λ r. script_text has.sentences ++ r) (sym (append_assoc (script_sentence_text next.says) (10 ∷ []) behind))
        ∙ sym (append_assoc (script_text has.sentences) (script_sentence_text next.says ++ 10 ∷ []) behind)
        ∙ ap (λ r. r ++ behind) (sym (lines_text-append has.sentences (next.says ∷ [])))

-- what is left grows shorter
pub shorter : (names : Names) (standing : List (List ℕ)) (left behind : List ℕ) (x : Command) (after : List (List ℕ))
    → AsksNext names standing left x behind after → length behind < length left
shorter names standing left behind x after next = let long : length left
    ≡ length (script_sentence_text next.says ++ 10 ∷ behind) = ap length next.begins in omega
    (arith, length-append (script_sentence_text next.says) (10 ∷ behind))

pub all_read : (names : Names) (bytes left : List ℕ) (xs : List Command) → HasRead names bytes left xs
    → left ≡ [] → IsScript names bytes xs
all_read names bytes left xs has none = record {
  sentences = has.sentences;
  spelled = has.begins ∙ ap (λ r. script_text has.sentences ++ r) none ∙ append-nil (script_text has.sentences);
  asked = has.asked;
}

pub first_fault : (names : Names) (standing : List (List ℕ)) (bytes left : List ℕ) (xs : List Command)
    → HasRead names bytes left xs → standing ≡ standing_by xs → (line : ℕ) (fault : ScriptFault)
    → AtLine (length xs + 1) (BeginsWithFaultyLine names standing left) line fault
    → IsFirstScriptFault names bytes line fault
first_fault names standing bytes left xs has stand line fault h =
    record {
      before = has.sentences;
      commands = xs;
      left = left;
      begins = has.begins;
      counted = h.0 ∙ ap (λ n. n + 1) (sym has.counted);
      asked = has.asked;
      here = subst (λ t. BeginsWithFaultyLine names t left fault) stand h.1;
    }
