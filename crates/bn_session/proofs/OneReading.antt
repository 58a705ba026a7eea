-- Bytes are read in one way: two readings go on together.
use Rattle.std.specs.Prelude.{◌≡◌, ◌≢◌, ℕ, ◌+◌, ◌≤◌, true, false, List, [], ◌∷◌, ◌++◌, length, fold, slice_get, Some}
use Rattle.std.specs.Prelude.{is_some, Contains, ◌⊎◌, refl}
use Rattle.std.proofs.Common.{sym, ap, subst, ◌∙◌, arith, inl, inr, append_assoc}
use Rattle.std.proofs.lemmas.List.{append-nil}
use Rattle.std.proofs.lemmas.Bool.{cases_lt}
use Rattle.std.proofs.lemmas.Option.{slice_get-get_or, slice_get_within}
use Rattle.bn_session.specs.Labels.{standing_after, standing_by}
use Rattle.bn_session.specs.Sentences.{ScriptSentence, Step, Back, Go, Rev, BreakState, BreakElement, BreakLine}
use Rattle.bn_session.specs.Sentences.{Drop, View}
use Rattle.bn_session.specs.Sentences.{IsSayableInScript, script_sentence_text, script_text}
use Rattle.bn_session.specs.Scripts.{Names, state_names, Asks, AskFor, IsScript, ScriptFault, malformed, no_state}
use Rattle.bn_session.specs.Scripts.{same_break, no_break}
use Rattle.bn_session.specs.Scripts.{IsFaultyLine, IsMalformedLine, BeginsFaulty, BeginsWithFaultyLine}
use Rattle.bn_session.specs.Scripts.{IsFirstScriptFault}
use Rattle.bn_session.specs.Laws.{AreNamesApart, ScriptsAreOne, FaultyScriptsAreNone, FirstFaultsAreOne}
use Rattle.bn_session.specs.declared.command.Command.{Command}
use Rattle.bn_session.specs.declared.command.Command.TheVariants as commands
use Rattle.bn_session.proofs.LineLemmas.{lines-same}

-- a sentence asks for one command
asks-one : (names : Names) (standing : List (List ℕ)) (s : ScriptSentence) (x y : Command) → AreNamesApart names
    → Asks names standing s x → Asks names standing s y → x ≡ y
asks-one names standing (Step e) x y apart a b = a ∙ sym b
asks-one names standing (Back e) x y apart a b = a ∙ sym b
asks-one names standing (Go e) x y apart a b = a ∙ sym b
asks-one names standing (Rev e) x y apart a b = a ∙ sym b
asks-one names standing (BreakState label name) x y apart (m, at_m, new, is_x) (n, at_n, too, is_y) =
    is_x ∙ ap (λ k. commands.BreakState label k) (apart.same name m n at_m at_n) ∙ sym is_y
asks-one names standing (BreakElement label e) x y apart a b = a.1 ∙ sym b.1
asks-one names standing (BreakLine label e l) x y apart a b = a.1 ∙ sym b.1
asks-one names standing (Drop label) x y apart a b = a.1 ∙ sym b.1
asks-one names standing View x y apart a b = a ∙ sym b

there : (names : List (List ℕ)) (name : List ℕ) (n : ℕ) → slice_get names n ≡ Some name → Contains names name
there names name n at =
    let inside = slice_get_within names n name at in
    (n, inside, same_name _ _ (sym (slice_get-get_or names n name inside) ∙ at))
  where
    same_name : (a b : List ℕ) → Some a ≡ Some b → a ≡ b
    same_name a b e = cc

-- a sentence that asks for a command has no fault
asks_no_fault : (names : Names) (standing : List (List ℕ)) (s : ScriptSentence) (x : Command) (fault : ScriptFault)
    → Asks names standing s x → IsFaultyLine names standing s fault → ⊥
asks_no_fault names standing (BreakState label name) x no_state (n, at, new, is) none =
    none (there (state_names names) name n at)
asks_no_fault names standing (BreakState label name) x same_break (n, at, new, is) (among, stand) =
    clash (sym stand ∙ new)
  where
    clash : true ≡ false → ⊥
    clash e = cc
asks_no_fault names standing (BreakElement label e) x same_break a stand = let new = a.0 in clash (sym stand ∙ new)
  where
    clash : true ≡ false → ⊥
    clash e = cc
asks_no_fault names standing (BreakLine label e l) x same_break a stand = let new = a.0 in clash (sym stand ∙ new)
  where
    clash : true ≡ false → ⊥
    clash e = cc
asks_no_fault names standing (Drop label) x no_break a new = let stand = a.0 in clash (sym stand ∙ new)
  where
    clash : true ≡ false → ⊥
    clash e = cc
asks_no_fault names standing s x fault a h = h

-- ---- two readings

-- the second reading goes on where the first ends
record Continues (names : Names) (standing : List (List ℕ)) (ss : List ScriptSentence) (xs : List Command)
    (left : List ℕ)
    (ts : List ScriptSentence) (ys : List Command) (other : List ℕ) : Type 0 where
  more : List ScriptSentence
  others : List Command
  sentences : ts ≡ ss ++ more
  commands : ys ≡ xs ++ others
  text : left ≡ script_text more ++ other
  asked : AskFor names (fold standing_after standing xs) more others

continues : (names : Names) (standing : List (List ℕ)) (ss ts : List ScriptSentence) (xs ys : List Command)
    (left other : List ℕ)
    → AreNamesApart names → AskFor names standing ss xs → AskFor names standing ts ys
    → script_text ss ++ left ≡ script_text ts ++ other → length ss ≤ length ts
    → Continues names standing ss xs left ts ys other
continues names standing [] ts xs ys left other apart none asked e short =
    let P : List Command → Type 0 = λ zs. Continues names standing [] zs left ts ys other in
    subst P (sym none) (record { more = ts; others = ys; sentences = refl; commands = refl; text = e; asked = asked })
continues names standing (s ∷ ss) [] xs ys left other apart a b e short = absurd (omega arith)
continues names standing (s ∷ ss) (t ∷ ts) xs ys left other apart (x, xs', xs_is, sayable, asks, rest)
    (y, ys', ys_is, sayable_t, asks_t, rest_t) e short =
    let first : script_sentence_text s ++ 10 ∷ (script_text ss ++ left)
    ≡ script_sentence_text t ++ 10 ∷ (script_text ts ++ other) =
    sym (append_assoc (script_sentence_text s) (10 ∷ script_text ss) left) ∙ e
    ∙ append_assoc (script_sentence_text t) (10 ∷ script_text ts) other
    in
    let both = lines-same (is_some names) s t (script_text ss ++ left) (script_text ts ++ other) sayable sayable_t first
    in
    let same_x : y ≡ x = asks-one names standing s y x apart (subst (λ u. Asks names standing u y) (sym both.0) asks_t)
    asks in
    let go_on = continues names (standing_after standing x) ss ts xs' ys' left other apart rest
    (subst (λ z. AskFor names (standing_after standing z) ts ys') same_x rest_t) both.1 (omega arith) in
    let P : List Command → Type 0 = λ zs. Continues names standing (s ∷ ss) zs left (t ∷ ts) ys other in
    subst P (sym xs_is) (record {
      more = go_on.more;
      others = go_on.others;
      sentences = let front = go_on.sentences in let head = both.0 in
          (ap (λ u. u ∷ ts) (sym head) ∙ ap (λ us. s ∷ us) front);
      commands = ys_is ∙ ap (λ z. z ∷ ys') same_x ∙ ap (λ zs. x ∷ zs) go_on.commands;
      text = go_on.text;
      asked = go_on.asked;
    })

line_left : (line behind : List ℕ) → line ++ 10 ∷ behind ≡ [] → ⊥
line_left [] behind e = cc
line_left (x ∷ xs) behind e = cc

faulty_left : (names : Names) (standing : List (List ℕ)) (left : List ℕ) (fault : ScriptFault)
    → BeginsFaulty names standing left fault → left ≢ []
faulty_left names standing left fault h e = line_left (script_sentence_text h.says) h.behind (sym h.begins ∙ e)

-- what is left and has a fault isn't empty
fault_left : (names : Names) (standing : List (List ℕ)) (left : List ℕ) (fault : ScriptFault)
    → BeginsWithFaultyLine names standing left fault → left ≢ []
fault_left names standing left malformed h e = h.some e
fault_left names standing left no_state h e = faulty_left names standing left no_state h e
fault_left names standing left same_break h e = faulty_left names standing left same_break h e
fault_left names standing left no_break h e = faulty_left names standing left no_break h e

faulty_asks : (names : Names) (standing : List (List ℕ)) (left behind : List ℕ) (s : ScriptSentence) (x : Command)
    (fault : ScriptFault) → BeginsFaulty names standing left fault → left ≡ script_sentence_text s ++ 10 ∷ behind
    → IsSayableInScript (is_some names) s → Asks names standing s x → ⊥
faulty_asks names standing left behind s x fault h begins sayable asks =
    let same = (lines-same (is_some names) h.says s h.behind behind h.sayable sayable (sym h.begins ∙ begins)).0 in
    asks_no_fault names standing s x fault asks (subst (λ t. IsFaultyLine names standing t fault) same h.faulty)

-- what is left and has a fault begins with no line that asks for a command
fault_asks : (names : Names) (standing : List (List ℕ)) (left behind : List ℕ) (s : ScriptSentence) (x : Command)
    (fault : ScriptFault) → BeginsWithFaultyLine names standing left fault
    → left ≡ script_sentence_text s ++ 10 ∷ behind → IsSayableInScript (is_some names) s → Asks names standing s x → ⊥
fault_asks names standing left behind s x malformed h begins sayable asks = h.unsaid s behind sayable begins
fault_asks names standing left behind s x no_state h begins sayable asks =
    faulty_asks names standing left behind s x no_state h begins sayable asks
fault_asks names standing left behind s x same_break h begins sayable asks =
    faulty_asks names standing left behind s x same_break h begins sayable asks
fault_asks names standing left behind s x no_break h begins sayable asks =
    faulty_asks names standing left behind s x no_break h begins sayable asks

-- so no reading goes on there
stops : (names : Names) (standing : List (List ℕ)) (left other : List ℕ) (fault : ScriptFault)
    (more : List ScriptSentence)
    (others : List Command) → BeginsWithFaultyLine names standing left fault → left ≡ script_text more ++ other
    → AskFor names standing more others → more ≡ []
stops names standing left other fault [] others h text asked = refl
stops names standing left other fault (s ∷ more) others h text (x, xs, is, sayable, asks, rest) =
    absurd (fault_asks names standing left (script_text more ++ other) s x fault h
    (text ∙ append_assoc (script_sentence_text s) (10 ∷ script_text more) other) sayable asks)

-- a sentence has one first fault
sentence_fault : (names : Names) (standing : List (List ℕ)) (s : ScriptSentence) (fault other : ScriptFault)
    → IsFaultyLine names standing s fault → IsFaultyLine names standing s other → fault ≡ other
sentence_fault names standing (BreakState label name) no_state no_state a b = refl
sentence_fault names standing (BreakState label name) no_state same_break a b = absurd (a b.0)
sentence_fault names standing (BreakState label name) no_state other a b = absurd b
sentence_fault names standing (BreakState label name) same_break same_break a b = refl
sentence_fault names standing (BreakState label name) same_break no_state a b = absurd (b a.0)
sentence_fault names standing (BreakState label name) same_break other a b = absurd b
sentence_fault names standing (BreakState label name) fault other a b = absurd a
sentence_fault names standing (BreakElement label e) same_break same_break a b = refl
sentence_fault names standing (BreakElement label e) same_break other a b = absurd b
sentence_fault names standing (BreakElement label e) fault other a b = absurd a
sentence_fault names standing (BreakLine label e l) same_break same_break a b = refl
sentence_fault names standing (BreakLine label e l) same_break other a b = absurd b
sentence_fault names standing (BreakLine label e l) fault other a b = absurd a
sentence_fault names standing (Drop label) no_break no_break a b = refl
sentence_fault names standing (Drop label) no_break other a b = absurd b
sentence_fault names standing (Drop label) fault other a b = absurd a
sentence_fault names standing s fault other a b = absurd a

both_faulty : (names : Names) (standing : List (List ℕ)) (left : List ℕ) (fault other : ScriptFault)
    → BeginsFaulty names standing left fault → BeginsFaulty names standing left other → fault ≡ other
both_faulty names standing left fault other a b =
    let same = (lines-same (is_some names) a.says b.says a.behind b.behind a.sayable b.sayable
    (sym a.begins ∙ b.begins)).0 in
    sentence_fault names standing b.says fault other (subst (λ t. IsFaultyLine names standing t fault) same a.faulty)
    b.faulty

malformed_faulty : (names : Names) (standing : List (List ℕ)) (left : List ℕ) (fault : ScriptFault)
    → IsMalformedLine names left
    → BeginsFaulty names standing left fault → ⊥
malformed_faulty names standing left fault a b = a.unsaid b.says b.behind b.sayable b.begins

-- what is left has one first fault
one_fault : (names : Names) (standing : List (List ℕ)) (left : List ℕ) (fault other : ScriptFault)
    → BeginsWithFaultyLine names standing left fault → BeginsWithFaultyLine names standing left other → fault ≡ other
one_fault names standing left malformed malformed a b = refl
one_fault names standing left malformed no_state a b = absurd (malformed_faulty names standing left no_state a b)
one_fault names standing left malformed same_break a b = absurd (malformed_faulty names standing left same_break a b)
one_fault names standing left malformed no_break a b = absurd (malformed_faulty names standing left no_break a b)
one_fault names standing left no_state malformed a b = absurd (malformed_faulty names standing left no_state b a)
one_fault names standing left same_break malformed a b = absurd (malformed_faulty names standing left same_break b a)
one_fault names standing left no_break malformed a b = absurd (malformed_faulty names standing left no_break b a)
one_fault names standing left no_state no_state a b = refl
one_fault names standing left no_state same_break a b = both_faulty names standing left no_state same_break a b
one_fault names standing left no_state no_break a b = both_faulty names standing left no_state no_break a b
one_fault names standing left same_break no_state a b = both_faulty names standing left same_break no_state a b
one_fault names standing left same_break same_break a b = refl
one_fault names standing left same_break no_break a b = both_faulty names standing left same_break no_break a b
one_fault names standing left no_break no_state a b = both_faulty names standing left no_break no_state a b
one_fault names standing left no_break same_break a b = both_faulty names standing left no_break same_break a b
one_fault names standing left no_break no_break a b = refl

-- ---- the laws

either_shorter : (m n : ℕ) → (m ≤ n) ⊎ (n ≤ m)
either_shorter m n = elim (cases_lt m n) [ inl low ↦ inl (omega arith) | inr high ↦ inr high ]

no_text : (ss : List ScriptSentence) → [] ≡ script_text ss ++ [] → ss ≡ []
no_text [] e = refl
no_text (s ∷ ss) e = absurd (line_left (script_sentence_text s) (script_text ss)
    (sym (append-nil (script_sentence_text s ++ 10 ∷ script_text ss)) ∙ sym e))

same_commands : (names : Names) (standing : List (List ℕ)) (more : List ScriptSentence) (others : List Command)
    → more ≡ []
    → AskFor names standing more others → others ≡ []
same_commands names standing more others none asked = subst (λ ss. AskFor names standing ss others) none asked

shorter_one : (names : Names) (bytes : List ℕ) (xs ys : List Command) → AreNamesApart names
    → (a : IsScript names bytes xs) (b : IsScript names bytes ys) → length a.sentences ≤ length b.sentences → xs ≡ ys
shorter_one names bytes xs ys apart a b short =
    let text : script_text a.sentences ++ [] ≡ script_text b.sentences ++ [] =
    append-nil (script_text a.sentences) ∙ sym a.spelled ∙ b.spelled ∙ sym (append-nil (script_text b.sentences)) in
    let on = continues names [] a.sentences b.sentences xs ys [] [] apart a.asked b.asked text short in
    let none = same_commands names (fold standing_after [] xs) on.more on.others (no_text on.more on.text) on.asked in
    sym (append-nil xs) ∙ ap (λ zs. xs ++ zs) (sym none) ∙ sym on.commands

pub scripts-one : ScriptsAreOne
scripts-one names bytes xs ys apart a b = elim (either_shorter (length a.sentences) (length b.sentences)) [
  | inl short ↦ shorter_one names bytes xs ys apart a b short
  | inr short ↦ sym (shorter_one names bytes ys xs apart b a short)
]

pub faulty-none : FaultyScriptsAreNone
faulty-none names bytes line fault xs apart a b =
    let there = fault_left names (standing_by a.commands) a.left fault a.here in
    let text : script_text a.before ++ a.left ≡ script_text b.sentences ++ [] =
    sym a.begins ∙ b.spelled ∙ sym (append-nil (script_text b.sentences)) in
    elim (either_shorter (length a.before) (length b.sentences)) [
      | inl short ↦
          let on = continues names [] a.before b.sentences a.commands xs a.left [] apart a.asked b.asked text short in
          let none = stops names (standing_by a.commands) a.left [] fault on.more on.others a.here on.text on.asked in
          there (on.text ∙ ap (λ ss. script_text ss ++ []) none)
      | inr short ↦
          let on = continues names [] b.sentences a.before xs a.commands [] a.left apart b.asked a.asked (sym text)
          short in
          there (no_right (script_text on.more) a.left (sym on.text))
    ]
  where
    no_right : (xs ys : List ℕ) → xs ++ ys ≡ [] → ys ≡ []
    no_right [] ys e = e
    no_right (x ∷ xs) ys e = absurd (cc)

shorter_fault : (names : Names) (bytes : List ℕ) (line number : ℕ) (fault other : ScriptFault) → AreNamesApart names
    → (a : IsFirstScriptFault names bytes line fault) (b : IsFirstScriptFault names bytes number other)
    → length a.before ≤ length b.before
    → (line ≡ number) × (fault ≡ other)
shorter_fault names bytes line number fault other apart a b short =
    let on = continues names [] a.before b.before a.commands b.commands a.left b.left apart a.asked b.asked
    (sym a.begins ∙ b.begins) short in
    let none = stops names (standing_by a.commands) a.left b.left fault on.more on.others a.here on.text on.asked in
    let no_more = same_commands names (standing_by a.commands) on.more on.others none on.asked in
    let sentences : b.before ≡ a.before = on.sentences ∙ ap (λ ss. a.before ++ ss) none ∙ append-nil a.before in
    let commands_are : b.commands ≡ a.commands = on.commands ∙ ap (λ zs. a.commands ++ zs) no_more
    ∙ append-nil a.commands in
    let left_is : b.left ≡ a.left = sym (on.text ∙ ap (λ ss. script_text ss ++ b.left) none) in
    let here = subst (λ l. BeginsWithFaultyLine names (standing_by a.commands) l other) left_is
    (subst (λ zs. BeginsWithFaultyLine names (standing_by zs) b.left other) commands_are b.here) in (
      a.counted ∙ ap (λ ss. length ss + 1) (sym sentences) ∙ sym b.counted,
      one_fault names (standing_by a.commands) a.left fault other a.here here,
    )

pub faults-one : FirstFaultsAreOne
faults-one names bytes line number fault other apart a b = elim (either_shorter (length a.before) (length b.before)) [
  | inl short ↦ shorter_fault names bytes line number fault other apart a b short
  | inr short ↦ (let both = shorter_fault names bytes number line other fault apart b a short in
      (sym both.0, sym both.1))
]
