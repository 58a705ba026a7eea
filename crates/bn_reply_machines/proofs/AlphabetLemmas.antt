-- The letters of a tape of a table of quadruples, and a word of them.
use Rattle.std.specs.Prelude.{◌≡◌, ℕ, zero, suc, ◌+◌, ◌<◌, ◌≤◌, ◌^◌, ◌⊎◌, List, [], ◌∷◌, length, Contains, Some}
use Rattle.std.specs.Prelude.{slice_get, nat_le, ◌&&◌, true, refl}
use Rattle.std.proofs.Common.{arith, inl, inr, sym, subst, ap, ◌∙◌}
use Rattle.std.proofs.lemmas.Bool.{cases_lt}
use Rattle.std.proofs.lemmas.Bool.Decides.{nat_tests}
use Rattle.std.proofs.lemmas.Option.{slice_get_within, slice_get-get_or}
use Rattle.std.specs.List.{list_all}
use Rattle.bn_csv.specs.Forms.{is_symbol, is_symbol_byte}
use Rattle.bn_csv.specs.Numbering.{firsts, firsts_by}
use Rattle.bn_csv.proofs.FormsLemmas.{all-at}
use Rattle.bn_csv.proofs.NumberingLemmas.{both_true, firsts_number}
use Rattle.bn_quad.specs.Names.{symbols_on}
use Rattle.bn_qtable.specs.Reading.{ReadsQuadruples}
use Rattle.bn_qtable.specs.Rows.{QuadTable, blank_name}
use Rattle.bn_reply.specs.Words.{IsSpelledBy}
use Rattle.bn_reply.proofs.LetterLemmas.{HasAlphabet}
use Rattle.bn_reply_machines.specs.QuadReply.{letter_of, lettered, letters_from}
use Rattle.bn_reply_machines.specs.Opened.{AreAlphabets, IsAlphabet, IsWordOn}

-- ---- the letter of a symbol

pub length-letters : (s : ℕ) (names : List (List ℕ)) → length (letters_from s names) ≡ length names
length-letters s [] = refl
length-letters s (name ∷ names) = ap suc (length-letters (suc s) names)

pub letter_there : (s : ℕ) (names : List (List ℕ)) (k m : ℕ) (name : List ℕ) → m ≡ s + k → slice_get names k ≡ Some
    name →
    slice_get (letters_from s names) k ≡ Some (letter_of m name)
letter_there s [] k m name e h = absurd (cc h)
letter_there s (first ∷ names) zero m name e h =
    let same : first ≡ name = cc h in
    let z : s ≡ m = omega (arith, e) in
    (λ i. Some (letter_of (z i) (same i)))
letter_there s (first ∷ names) (suc k) m name e h = letter_there (suc s) names k m name (omega (arith, e)) h

-- the name behind a letter
letter_back : (s : ℕ) (names : List (List ℕ)) (k m b : ℕ) → m ≡ s + k → slice_get (letters_from s names) k ≡ Some b →
    (name : List ℕ) × (slice_get names k ≡ Some name) × (letter_of m name ≡ b)
letter_back s [] k m b e h = absurd (cc h)
letter_back s (first ∷ names) zero m b e h =
    let is : letter_of s first ≡ b = cc h in
    let z : m ≡ s = omega (arith, e) in
    (first, refl, ap (λ (k : ℕ). letter_of k first) z ∙ is)
letter_back s (first ∷ names) (suc k) m b e h = letter_back (suc s) names k m b (omega (arith, e)) h

-- a name has one byte, or it has no letter
abbrev OneOrNone : List ℕ → Type 0
OneOrNone name = ((x : ℕ) × (name ≡ x ∷ [])) ⊎ ((s : ℕ) → letter_of s name ≡ 256 + s)

one_or_none : (name : List ℕ) → OneOrNone name
one_or_none [] = inr (λ s. refl)
one_or_none (x ∷ []) = inl (x, refl)
one_or_none (x ∷ y ∷ rest) = inr (λ s. refl)

low_byte : (b : ℕ) → is_symbol_byte b ≡ true → b < 256
low_byte b e = grind (arith, nat_tests)

low_name : (names : List (List ℕ)) (k x : ℕ) → list_all is_symbol names ≡ true → slice_get names k ≡ Some (x ∷ []) →
    x < 256
low_name names k x form at =
    let is : is_symbol (x ∷ []) ≡ true = all-at is_symbol names k (x ∷ []) form at in
    let bytes = (both_true (nat_le 1 1 && nat_le 1 8) (list_all is_symbol_byte (x ∷ [])) is).1 in
    low_byte x (both_true (is_symbol_byte x) (list_all is_symbol_byte []) bytes).0

same_symbol : (names : List (List ℕ)) (m n b : ℕ) (p q : List ℕ) → IsAlphabet names → slice_get names m ≡ Some p →
    slice_get names n ≡ Some q → letter_of m p ≡ b → letter_of n q ≡ b → OneOrNone p → OneOrNone q → m ≡ n
same_symbol names m n b p q a at also first second (inl one) (inl two) =
    let x : one.0 ≡ b = sym (ap (letter_of m) one.1) ∙ first in
    let y : two.0 ≡ b = sym (ap (letter_of n) two.1) ∙ second in
    let same : q ≡ p = two.1 ∙ ap (λ (z : ℕ). z ∷ []) (y ∙ sym x) ∙ sym one.1 in
    a.apart.same p m n at (also ∙ ap (λ (z : List ℕ). Some z) same)
same_symbol names m n b p q a at also first second (inl one) (inr two) =
    let x : one.0 ≡ b = sym (ap (letter_of m) one.1) ∙ first in
    let y : 256 + n ≡ b = sym (two n) ∙ second in
    let low = low_name names m one.0 a.form (at ∙ ap (λ (z : List ℕ). Some z) one.1) in
    absurd (omega (arith, x, y, low))
same_symbol names m n b p q a at also first second (inr one) (inl two) =
    let x : 256 + m ≡ b = sym (one m) ∙ first in
    let y : two.0 ≡ b = sym (ap (letter_of n) two.1) ∙ second in
    let low = low_name names n two.0 a.form (also ∙ ap (λ (z : List ℕ). Some z) two.1) in
    absurd (omega (arith, x, y, low))
same_symbol names m n b p q a at also first second (inr one) (inr two) =
    let x : 256 + m ≡ b = sym (one m) ∙ first in
    let y : 256 + n ≡ b = sym (two n) ∙ second in
    omega (arith, x, y)

pub has_alphabet : (names : List (List ℕ)) → IsAlphabet names → HasAlphabet (lettered names)
has_alphabet names a = record {
  begins = letter_there 0 names 0 0 blank_name (omega arith) a.begins;
  apart = λ m n b at also.
      let p = letter_back 0 names m m b (omega arith) at in
      let q = letter_back 0 names n n b (omega arith) also in
      same_symbol names m n b p.0 q.0 a p.1 q.1 p.2 q.2 (one_or_none p.0) (one_or_none q.0);
}

-- ---- the symbol of a letter

some_once : {m n : ℕ} → Some m ≡ Some n → m ≡ n
some_once e = cc

-- the symbol whose name is a byte alone has that letter
pub letter_found : (names : List (List ℕ)) (s b : ℕ) (name : List ℕ) → slice_get names s ≡ Some name → name ≡ b ∷ [] →
    slice_get (letters_from 0 names) s ≡ Some b
letter_found names s b name at is = letter_there 0 names s s name (omega arith) at ∙ ap (λ (z : List ℕ). Some
    (letter_of s z)) is

-- a symbol whose name is another one hasn't
pub letter_missed : (names : List (List ℕ)) (s b : ℕ) (name : List ℕ) → b < 256 → slice_get names s ≡ Some name →
    (name ≡ b ∷ [] → ⊥) → slice_get (letters_from 0 names) s ≡ Some b → ⊥
letter_missed names s b name low at other found = by (one_or_none name)
  where
    is : letter_of s name ≡ b
    is =
        let there : slice_get (letters_from 0 names) s ≡ Some (letter_of s name) = letter_there 0 names s s name
        (omega arith) at in
        some_once (sym there ∙ found)

    by : OneOrNone name → ⊥
    by (inl one) = other (one.1 ∙ ap (λ (z : ℕ). z ∷ []) (sym (ap (letter_of s) one.1) ∙ is))
    by (inr none) = let far : 256 + s ≡ b = sym (none s) ∙ is in absurd (omega (arith, far, low))

-- none of the symbols below n has the letter
pub record HasNoLetterBelow (names : List (List ℕ)) (b n : ℕ) : Type 0 where
  pub none : (s : ℕ) → s < n → slice_get (letters_from 0 names) s ≡ Some b → ⊥

pub none_below_more : (names : List (List ℕ)) (b n : ℕ) (name : List ℕ) → b < 256 → HasNoLetterBelow names b n →
    slice_get names n ≡ Some name → (name ≡ b ∷ [] → ⊥) → HasNoLetterBelow names b (n + 1)
none_below_more names b n name low h at other = record { none = by }
  where
    by : (s : ℕ) → s < n + 1 → slice_get (letters_from 0 names) s ≡ Some b → ⊥
    by s inside found = elim (cases_lt s n) [
      | inl before ↦ h.none s before found
      | inr after ↦
          let same : n ≡ s = omega (arith, inside, after) in
          letter_missed names s b name low (subst (λ (k : ℕ). slice_get names k ≡ Some name) same at) other found
    ]

pub none_at_all : (names : List (List ℕ)) (b n : ℕ) → length names ≤ n → HasNoLetterBelow names b n →
    Contains (letters_from 0 names) b → ⊥
none_at_all names b n all h c =
    let count = length-letters 0 names in
    let inside = c.1 in
    h.none c.0 (omega (arith, count, inside, all)) (slice_get-get_or (letters_from 0 names) c.0 b c.1 ∙ ap (λ (x :
    ℕ). Some x) c.2)

-- ---- a word

pub some_symbol : (names : List (List ℕ)) → IsAlphabet names → 0 < length names
some_symbol names a = slice_get_within names 0 blank_name a.begins

pub word_on : (names : List (List ℕ)) (word symbols : List ℕ) → IsAlphabet names → length symbols < 2 ^ 62 →
    IsSpelledBy (lettered names) word symbols → IsWordOn names symbols
word_on names word symbols a few h = record {
  some = some_symbol names a;
  few = few;
  letters = λ k d inside. (h.symbols_known k d inside).letter;
  known = λ k d inside.
      let known = (h.symbols_known k d inside).known in
      let count = length-letters 0 names in
      omega (arith, known, count);
}

pub no_word : (names : List (List ℕ)) → 0 < length names → IsWordOn names []
no_word names some = record {
  some = some;
  few = omega arith;
  letters = λ k d inside. absurd (omega (arith, inside));
  known = λ k d inside. absurd (omega (arith, inside));
}

-- ---- the names of a table that is read

begins_blank : (rest : List (List ℕ)) → slice_get (firsts (blank_name ∷ rest)) 0 ≡ Some blank_name
unfolding firsts_by
begins_blank rest = refl

by_first : (names rest : List (List ℕ)) → names ≡ firsts (blank_name ∷ rest) → list_all is_symbol names ≡ true →
    IsAlphabet names
by_first names rest is form = record {
  begins = ap (λ (z : List (List ℕ)). slice_get z 0) is ∙ begins_blank rest;
  apart = record {
    same = λ name m n at also.
        (firsts_number (blank_name ∷ rest)).apart name m n (subst (λ (z : List (List ℕ)). slice_get z m ≡ Some name)
        is at)
        (subst (λ (z : List (List ℕ)). slice_get z n ≡ Some name) is also);
  };
  form = form;
}

pub read_alphabet : (bytes : List ℕ) (t : QuadTable) (tape : ℕ) → ReadsQuadruples bytes t → 1 ≤ tape →
    IsAlphabet (symbols_on t.names tape)
read_alphabet bytes t zero h low = absurd (omega (arith, low))
read_alphabet bytes t (suc zero) h low = by_first t.names.one _ h.spelled.one_by_first h.spelled.one_form
read_alphabet bytes t (suc (suc zero)) h low = by_first t.names.two _ h.spelled.two_by_first h.spelled.two_form
read_alphabet bytes t (suc (suc (suc k))) h low = by_first t.names.three _ h.spelled.three_by_first h.spelled.three_form

pub read_alphabets : (bytes : List ℕ) (t : QuadTable) → ReadsQuadruples bytes t → AreAlphabets t.names
read_alphabets bytes t h = record {
  one = read_alphabet bytes t 1 h (omega arith);
  two = read_alphabet bytes t 2 h (omega arith);
  three = read_alphabet bytes t 3 h (omega arith);
}
