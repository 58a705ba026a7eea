-- Names between commas, and what is answered to words on the tapes.
use Rattle.std.specs.Prelude.{◌≡◌, ℕ, zero, suc, ◌+◌, ◌-◌, ◌<◌, ◌==◌, ◌⊎◌, ◌++◌, List, [], ◌∷◌, Bool, Contains, Some}
use Rattle.std.specs.Prelude.{drop, false, length, map, position, refl, take, true}
use Rattle.std.proofs.Common.{arith, inl, inr, sym, subst, ap, get_or, ◌∙◌}
use Rattle.std.proofs.lemmas.Bool.Decides.{eqb_tells}
use Rattle.std.proofs.lemmas.List.{drop_more, take_rest}
use Rattle.std.proofs.lemmas.List.Quantifiers.{position-Some}
use Rattle.bn_circuits.specs.declared.place.Place.{Place}
use Rattle.bn_quad.specs.Names.{Naming}
use Rattle.bn_qtable.specs.TapeWords.{Names, TapeWords, begin_first, comma, names_between, names_of_word, names_on}
use Rattle.bn_reply.specs.Answering.{HasAnswer, IsOneAnswer, IsSettled}
use Rattle.bn_reply.specs.Codes.{IsReplyStatus}
use Rattle.bn_reply.specs.declared.status.Status.{Status}
use Rattle.bn_reply.specs.declared.status.Status.TheVariants as statuses
use Rattle.bn_reply.proofs.SettledLemmas.{agree}
use Rattle.bn_reply_machines.specs.NamedWords.{AreNamedBy, IsFirstUnnamed, IsNameOn, IsNamedBy, IsNamedSoFar}
use Rattle.bn_reply_machines.specs.NamedWords.{IsSymbolNamed}
use Rattle.bn_reply_machines.specs.Opened.{AreAlphabets, IsAlphabet}
use Rattle.bn_reply_machines.specs.WordsReply.{NamedWordReplies, WordsReplies, named, unnamed, unnamed_line}
use Rattle.bn_reply_machines.proofs.NamedWordLemmas.{first_unnamed, named_once, named_or_unnamed, not_unnamed}
use Rattle.bn_reply_machines.proofs.NamedWordLemmas.{one_named}
use Rattle.bn_reply_machines.proofs.NamedWordLemmas.{unnamed_once}

-- ---- names between commas

-- the byte is a comma
abbrev is_comma : ℕ → Bool
is_comma byte = byte == comma

cut_by : (bytes : List ℕ) (k : ℕ) → k < length bytes → is_comma (get_or bytes k 0) ≡ true →
    ((i : ℕ) → i < k → is_comma (get_or bytes i 0) ≡ false) →
    names_between bytes ≡ take k bytes ∷ names_between (drop (suc k) bytes)
cut_by [] k inside here before = absurd (omega arith)
cut_by (byte ∷ bytes) zero inside here before = rw here refl
cut_by (byte ∷ bytes) (suc k) inside here before =
    let other : is_comma byte ≡ false = before 0 (omega arith) in
    rw other (ap (begin_first byte) (cut_by bytes k (omega arith) here (λ i low. before (suc i) (omega arith))))

-- the first name is what stands before the first comma
pub names_cut : (bytes : List ℕ) (k : ℕ) → position (λ byte. byte == comma) bytes ≡ Some k →
    names_between bytes ≡ take k bytes ∷ names_between (drop (k + 1) bytes)
names_cut bytes k h =
    let first = position-Some is_comma bytes k 0 h in
    let e : suc k ≡ k + 1 = omega arith in
    subst (λ (n : ℕ). names_between bytes ≡ take k bytes ∷ names_between (drop n bytes)) e
    (cut_by bytes k first.0 first.1 first.2)

-- where there is no comma, all is one name
pub names_uncut : (bytes : List ℕ) → (Contains bytes comma → ⊥) → names_between bytes ≡ bytes ∷ []
names_uncut [] none = refl
names_uncut (byte ∷ bytes) none = elim (eqb_tells byte comma) [
  | inl same ↦ absurd (none (0, omega arith, same.1))
  | inr other ↦ rw other.0 (ap (begin_first byte) (names_uncut bytes (λ h. none (suc h.0, omega arith, h.2))))
]

-- where there is a byte, names are given
pub names_given : (bytes : List ℕ) → 0 < length bytes → names_of_word (Names bytes) ≡ names_between bytes
names_given [] some = absurd (omega (arith, some))
names_given (byte ∷ bytes) some = refl

-- one name more of those between commas
pub one_cut : (names word : List (List ℕ)) (symbols left : List ℕ) (k s : ℕ) →
    position (λ byte. byte == comma) left ≡ Some k →
    IsNamedSoFar names word symbols (names_between left) → IsSymbolNamed names (take k left) s →
    IsNamedSoFar names word (symbols ++ s ∷ []) (names_between (take (length left - (k + 1)) (drop (k + 1) left)))
one_cut names word symbols left k s at h is =
    let so_far = subst (IsNamedSoFar names word symbols) (names_cut left k at) h in
    subst (λ (rest : List ℕ). IsNamedSoFar names word (symbols ++ s ∷ []) (names_between rest))
    (sym (take_rest left (k + 1)))
    (one_named names word symbols (take k left) (names_between (drop (k + 1) left)) s so_far is)

pub cut_unnamed : (names word : List (List ℕ)) → IsAlphabet names → (symbols left : List ℕ) (k : ℕ) →
    position (λ byte. byte == comma) left ≡ Some k → IsNamedSoFar names word symbols (names_between left) →
    (IsNameOn names (take k left) → ⊥) → IsFirstUnnamed names word (length symbols + 1)
cut_unnamed names word a symbols left k at h none =
    first_unnamed names word a symbols (take k left) (names_between (drop (k + 1) left))
    (subst (IsNamedSoFar names word symbols) (names_cut left k at) h) none

-- ---- names of one byte

-- each byte as a name
abbrev singles : List ℕ → List (List ℕ)
singles bytes = map (λ byte. byte ∷ []) bytes

byte_next : (bytes : List ℕ) (i : ℕ) → i < length bytes →
    singles (drop i bytes) ≡ (get_or bytes i 0 ∷ []) ∷ singles (drop (i + 1) bytes)
byte_next bytes i inside = ap singles (drop_more bytes i 0 inside)

pub one_byte : (names : List (List ℕ)) (symbols bytes : List ℕ) (i s : ℕ) → i < length bytes →
    IsNamedSoFar names (map (λ byte. byte ∷ []) bytes) symbols (map (λ byte. byte ∷ []) (drop i bytes)) →
    IsSymbolNamed names (get_or bytes i 0 ∷ []) s →
    IsNamedSoFar names (map (λ byte. byte ∷ []) bytes) (symbols ++ s ∷ [])
    (map (λ byte. byte ∷ []) (drop (i + 1) bytes))
one_byte names symbols bytes i s inside h is =
    one_named names (singles bytes) symbols (get_or bytes i 0 ∷ []) (singles (drop (i + 1) bytes)) s
    (subst (IsNamedSoFar names (singles bytes) symbols) (byte_next bytes i inside) h) is

pub byte_unnamed : (names : List (List ℕ)) → IsAlphabet names → (symbols bytes : List ℕ) (i : ℕ) → i < length bytes →
    IsNamedSoFar names (map (λ byte. byte ∷ []) bytes) symbols (map (λ byte. byte ∷ []) (drop i bytes)) →
    (IsNameOn names (get_or bytes i 0 ∷ []) → ⊥) →
    IsFirstUnnamed names (map (λ byte. byte ∷ []) bytes) (length symbols + 1)
byte_unnamed names a symbols bytes i inside h none =
    first_unnamed names (singles bytes) a symbols (get_or bytes i 0 ∷ []) (singles (drop (i + 1) bytes))
    (subst (IsNamedSoFar names (singles bytes) symbols) (byte_next bytes i inside) h) none

-- ---- what is answered to a word

module _ (line_of : ℕ → List ℕ) (tells : List ℕ → Status → List ℕ → List Place → Type 0) (names : List (List ℕ))
    (alphabet : IsAlphabet names) (word : List (List ℕ))
    (settled : (symbols : List ℕ) → IsNamedBy names word symbols → IsSettled (tells symbols)) where
  abbrev Answers : Status → List ℕ → List Place → Type 0
  Answers = NamedWordReplies line_of tells names word

  named_some : ((symbols : List ℕ) × IsNamedBy names word symbols) ⊎ ((p : ℕ) × IsFirstUnnamed names word p) →
      HasAnswer Answers
  named_some (inl s) = let some = (settled s.0 s.1).some in (some.0, some.1, some.2, named s.0 s.1 some.3)
  named_some (inr p) = (statuses.Word, line_of p.0, [], unnamed p.0 p.1 refl refl refl)

  named_one : IsOneAnswer Answers
  named_one s u a b x y (unnamed p h told e n) (unnamed q k also f m) = agree statuses.Word s u a b x y e f
      (told ∙ ap line_of (unnamed_once names word p q h k) ∙ sym also) n m
  named_one s u a b x y (unnamed p h told e n) (named symbols k answer) =
      absurd (not_unnamed names word alphabet symbols p k h)
  named_one s u a b x y (named symbols h answer) (unnamed q k also f m) =
      absurd (not_unnamed names word alphabet symbols q h k)
  named_one s u a b x y (named xs h answer) (named ys k other) =
      let same : ys ≡ xs = named_once names word alphabet ys xs k h in
      (settled xs h).one s u a b x y answer (subst (λ (zs : List ℕ). tells zs u b y) same other)

  named_status : (s : Status) (text : List ℕ) (told : List Place) → Answers s text told → IsReplyStatus s
  named_status s text told (unnamed p h told_is e n) = subst IsReplyStatus (sym e) tt
  named_status s text told (named symbols h answer) = (settled symbols h).status s text told answer

  pub named_word_settled : IsSettled (NamedWordReplies line_of tells names word)
  named_word_settled = record {
    some = named_some (named_or_unnamed names word alphabet);
    one = named_one;
    status = named_status;
  }

-- where a word is answered so whatever is told of its symbols, or what is told of them is told otherwise
pub named_as : (line_of : ℕ → List ℕ) (tells other : List ℕ → Status → List ℕ → List Place → Type 0)
    (names word : List (List ℕ)) (s : Status) (text : List ℕ) (told : List Place) →
    ((symbols : List ℕ) → tells symbols s text told → other symbols s text told) →
    NamedWordReplies line_of tells names word s text told → NamedWordReplies line_of other names word s text told
named_as line_of tells other names word s text told by (unnamed p h is e n) = unnamed p h is e n
named_as line_of tells other names word s text told by (named symbols h answer) = named symbols h (by symbols answer)

-- ---- what is answered to the words on the tapes

-- one answer and only one
pub words_settled : (words : TapeWords) (tells : List ℕ → List ℕ → List ℕ → Status → List ℕ → List Place → Type 0)
    (names : Naming) → AreAlphabets names →
    ((one two three : List ℕ) → AreNamedBy words names one two three → IsSettled (tells one two three)) →
    IsSettled (WordsReplies words tells names)
words_settled words tells names a settled =
    named_word_settled (unnamed_line words 1) (λ one. NamedWordReplies (unnamed_line words 2) (λ two.
    NamedWordReplies (unnamed_line words 3) (λ three. tells one two three) names.three (names_on words 3)) names.two
    (names_on words 2)) names.one a.one (names_on words 1) (λ one h.
    named_word_settled (unnamed_line words 2) (λ two.
    NamedWordReplies (unnamed_line words 3) (λ three. tells one two three) names.three (names_on words 3)) names.two
    a.two (names_on words 2) (λ two k.
    named_word_settled (unnamed_line words 3) (λ three. tells one two three) names.three a.three (names_on words 3)
    (λ three i. settled one two three (record { on_one = h; on_two = k; on_three = i }))))

-- where what is told of their symbols is told otherwise
pub words_as : (words : TapeWords) (tells other : List ℕ → List ℕ → List ℕ → Status → List ℕ → List Place → Type 0)
    (names : Naming) (s : Status) (text : List ℕ) (told : List Place) →
    ((one two three : List ℕ) → tells one two three s text told → other one two three s text told) →
    WordsReplies words tells names s text told → WordsReplies words other names s text told
words_as words tells other names s text told by =
    named_as (unnamed_line words 1) (λ one. NamedWordReplies (unnamed_line words 2) (λ two.
    NamedWordReplies (unnamed_line words 3) (λ three. tells one two three) names.three (names_on words 3)) names.two
    (names_on words 2)) (λ one. NamedWordReplies (unnamed_line words 2) (λ two.
    NamedWordReplies (unnamed_line words 3) (λ three. other one two three) names.three (names_on words 3)) names.two
    (names_on words 2)) names.one (names_on words 1) s text told (λ one.
    named_as (unnamed_line words 2) (λ two.
    NamedWordReplies (unnamed_line words 3) (λ three. tells one two three) names.three (names_on words 3)) (λ two.
    NamedWordReplies (unnamed_line words 3) (λ three. other one two three) names.three (names_on words 3)) names.two
    (names_on words 2) s text told (λ two.
    named_as (unnamed_line words 3) (λ three. tells one two three) (λ three. other one two three) names.three
    (names_on words 3) s text told (λ three. by one two three)))

-- what is told of their symbols is answered
pub words_named : (words : TapeWords) (tells : List ℕ → List ℕ → List ℕ → Status → List ℕ → List Place → Type 0)
    (names : Naming) (one two three : List ℕ) → AreNamedBy words names one two three → (s : Status) (text : List ℕ)
    (told : List Place) → tells one two three s text told → WordsReplies words tells names s text told
words_named words tells names one two three h s text told answer =
    named one h.on_one (named two h.on_two (named three h.on_three answer))
