-- A word has one list of symbols, or a first place that is foreign, and not both.
use Rattle.std.proofs.Common.{◌≡◌, ◌≢◌, ℕ, zero, suc, ◌+◌, ◌<◌, ◌≤◌, ◌∷◌, ◌++◌, List, [], length, take, get_or, ◌⊎◌}
use Rattle.std.proofs.Common.{inl, inr, sym, subst, ap, ◌∙◌, arith, Some}
use Rattle.std.specs.Prelude.{Contains, slice_index, slice_get}
use Rattle.std.proofs.lemmas.Bool.{cases_lt}
use Rattle.std.proofs.lemmas.Bool.Decides.{eqb_tells}
use Rattle.std.proofs.lemmas.Grind.{same_number_lists}
use Rattle.std.proofs.lemmas.List.{get_or-map, length-map}
use Rattle.std.proofs.lemmas.Option.{slice_get-get_or, slice_get_within, get_or_from_slice_get}
use Rattle.std.proofs.Math.Seq.{take-length}
use Rattle.bn_lists.specs.Lists.{nth}
use Rattle.bn_table.specs.Rows.{Named, blank}
use Rattle.bn_reply.specs.Letters.{IsSymbolOf}
use Rattle.bn_reply.specs.Words.{IsFirstForeign, IsLetterOf, IsSpelledBy}
use Rattle.bn_reply.proofs.LetterLemmas.{HasAlphabet, SpelledSoFar, first_foreign, none_so_far, one_more, symbol_found}

-- ---- one list of symbols

-- the letter of a symbol other than the blank is no blank
symbol_letter : (t : Named) → HasAlphabet t → (symbol : ℕ) → symbol ≢ 0 → symbol < length t.letters
    → IsLetterOf t (slice_index t.letters symbol)
symbol_letter t h symbol nonblank known =
    let here : slice_get t.letters symbol ≡ Some (slice_index t.letters symbol) =
    slice_get-get_or t.letters symbol 0 known in
    record {
      known = (
        symbol,
        known,
        get_or_from_slice_get t.letters symbol (slice_index t.letters symbol) (slice_index t.letters symbol) here,
      );
      apart = λ e. nonblank (h.apart symbol 0 blank (here ∙ ap (λ (b : ℕ). Some b) e) h.begins);
    }

-- the byte at a place of a word that is spelled
pub byte_at : (t : Named) (word symbols : List ℕ) (k : ℕ) → IsSpelledBy t word symbols → k < length symbols →
    slice_index word k ≡ slice_index t.letters (slice_index symbols k)
byte_at t word symbols k h inside = ap (λ (w : List ℕ). slice_index w k) h.letters
    ∙ get_or-map (λ symbol. get_or t.letters symbol 0) symbols k 0 0 inside

pub same_length : (t : Named) (word symbols : List ℕ) → IsSpelledBy t word symbols → length word ≡ length symbols
same_length t word symbols h = ap length h.letters ∙ simp length-map

-- each byte of a word that is spelled is a letter other than the blank's
pub spelled_letter : (t : Named) → HasAlphabet t → (word symbols : List ℕ) (k : ℕ) → IsSpelledBy t word symbols
    → k < length word →
    IsLetterOf t (slice_index word k)
spelled_letter t h word symbols k s inside =
    let count = same_length t word symbols s in
    let low : k < length symbols = omega arith in
    let known = s.symbols_known k 0 low in
    subst (IsLetterOf t) (sym (byte_at t word symbols k s low))
    (symbol_letter t h (slice_index symbols k) known.letter known.known)

pub not_foreign : (t : Named) → HasAlphabet t → (word symbols : List ℕ) (p : ℕ) → IsSpelledBy t word symbols
    → IsFirstForeign t word p → ⊥
not_foreign t h word symbols p s f = by_place p f.stands
  where
    by_place : (p : ℕ) → nth word p ≡ Some f.byte → ⊥
    by_place zero e = cc e
    by_place (suc k) e =
        let inside : k < length word = slice_get_within word k f.byte e in
        let byte : slice_index word k ≡ f.byte = get_or_from_slice_get word k f.byte 0 e in
        f.foreign (subst (IsLetterOf t) byte (spelled_letter t h word symbols k s inside))

pub foreign_once : (t : Named) (word : List ℕ) (p q : ℕ) → IsFirstForeign t word p → IsFirstForeign t word q → p ≡ q
foreign_once t word p q f g = by_order (cases_lt p q) (cases_lt q p)
  where
    by_order : (p < q) ⊎ (q ≤ p) → (q < p) ⊎ (p ≤ q) → p ≡ q
    by_order (inl h) k = absurd (f.foreign (g.before.each p f.byte h f.stands))
    by_order (inr h) (inl k) = absurd (g.foreign (f.before.each q g.byte k g.stands))
    by_order (inr h) (inr k) = omega arith

-- a word has one spelling
pub spelled_once : (t : Named) → HasAlphabet t → (word xs ys : List ℕ) → IsSpelledBy t word xs → IsSpelledBy t word ys
    → xs ≡ ys
spelled_once t h word xs ys a b =
    let counts : length xs ≡ length ys = sym (same_length t word xs a) ∙ same_length t word ys b in
    same_number_lists xs ys counts (λ k low. same k low counts)
  where
    same : (k : ℕ) → k < length xs → length xs ≡ length ys → slice_index xs k ≡ slice_index ys k
    same k low counts =
        let also : k < length ys = omega arith in
        let first = slice_get-get_or t.letters (slice_index xs k) 0 (a.symbols_known k 0 low).known in
        let second = slice_get-get_or t.letters (slice_index ys k) 0 (b.symbols_known k 0 also).known in
        let letters : slice_index t.letters (slice_index xs k) ≡ slice_index t.letters (slice_index ys k) =
        sym (byte_at t word xs k a low)
        ∙ byte_at t word ys k b also in
        h.apart (slice_index xs k) (slice_index ys k) (slice_index t.letters (slice_index ys k))
        (first ∙ ap (λ (x : ℕ). Some x) letters) second

-- ---- one of the two

place_or_none : (xs : List ℕ) (b : ℕ) → ((k : ℕ) × (slice_get xs k ≡ Some b)) ⊎ (Contains xs b → ⊥)
place_or_none [] b = inr (λ c. let inside = c.1 in absurd (omega arith))
place_or_none (x ∷ xs) b = elim (eqb_tells x b) [
  | inl here ↦ inl (0, ap (λ (y : ℕ). Some y) here.1)
  | inr other ↦ elim (place_or_none xs b) [
    | inl there ↦ inl (suc there.0, there.1)
    | inr none ↦ inr (λ c. further x xs b other.1 none c.0 c.1 c.2)
  ]
]
  where
    further : (x : ℕ) (xs : List ℕ) (b : ℕ) → x ≢ b → (Contains xs b → ⊥) → (k : ℕ) → k < length (x ∷ xs)
        → get_or (x ∷ xs) k b ≡ b → ⊥
    further x xs b other none zero inside e = other e
    further x xs b other none (suc k) inside e = none (k, omega arith, e)

symbol_or_none : (t : Named) → HasAlphabet t → (byte : ℕ) → ((s : ℕ) × IsSymbolOf t byte s) ⊎ (IsLetterOf t byte → ⊥)
symbol_or_none t h byte = elim (eqb_tells byte blank) [
  | inl same ↦ inr (λ letter. letter.apart same.1)
  | inr apart ↦ elim (place_or_none t.letters byte) [
    | inl there ↦ inl (there.0, symbol_found t h byte apart.1 (Some there.0) there.1 tt)
    | inr none ↦ inr (λ letter. none letter.known)
  ]
]

word_from : (t : Named) → HasAlphabet t → (word : List ℕ) (fuel n : ℕ) (symbols : List ℕ) → n + fuel ≡ length word
    → SpelledSoFar t word n symbols →
    ((xs : List ℕ) × IsSpelledBy t word xs) ⊎ ((p : ℕ) × IsFirstForeign t word p)
word_from t h word zero n symbols sum so_far =
    let all : n ≡ length word = omega arith in
    inl (
      symbols,
      subst (λ (w : List ℕ). IsSpelledBy t w symbols) (ap (λ (k : ℕ). take k word) all ∙ take-length word)
          so_far.spelled,
    )
word_from t h word (suc fuel) n symbols sum so_far =
    let inside : n < length word = omega arith in
    let next : (n + 1) + fuel ≡ length word = omega arith in
    elim (symbol_or_none t h (get_or word n 0)) [
      | inl s ↦ word_from t h word fuel (n + 1) (symbols ++ s.0 ∷ []) next
          (one_more t word n symbols s.0 inside so_far s.1)
      | inr none ↦ inr (n + 1, first_foreign t word n symbols inside so_far none)
    ]

-- a word is spelled, or it has a first place that is foreign
pub spelled_or_foreign : (t : Named) → HasAlphabet t → (word : List ℕ)
    → ((symbols : List ℕ) × IsSpelledBy t word symbols) ⊎ ((p : ℕ) × IsFirstForeign t word p)
spelled_or_foreign t h word = word_from t h word (length word) 0 [] (omega arith) (none_so_far t word)
