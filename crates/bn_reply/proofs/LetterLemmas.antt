-- The letters of a word, one after another.
use Rattle.std.proofs.Common.{append_assoc, ◌≡◌, ◌≢◌, ◌<◌, ◌+◌, ◌++◌, ◌∷◌, ◌∙◌, ℕ, suc, List, [], length, take, drop}
use Rattle.std.proofs.Common.{get_or, Option, Some, None, arith, sym, ap, subst, refl}
use Rattle.std.specs.Prelude.{Contains, IfSome, IfNone, MatchOption, slice_get}
use Rattle.std.proofs.lemmas.List.{take_more, map-append, take-append-drop}
use Rattle.std.proofs.lemmas.List.Elements.{All-push}
use Rattle.std.proofs.lemmas.Option.{slice_get_within, get_or_from_slice_get, slice_get-get_or}
use Rattle.bn_lists.specs.Lists.{nth, AllBefore}
use Rattle.bn_lists.proofs.ListLemmas.{all_before_one, all_before_more}
use Rattle.bn_table.specs.Rows.{Named, IsTable, blank}
use Rattle.bn_table.proofs.RowsLemmas.{blank_first, one_symbol}
use Rattle.bn_reply.specs.Words.{IsLetterOf, IsLetterSymbol, IsSpelledBy, IsFirstForeign, letters_of}
use Rattle.bn_reply.specs.Letters.{IsSymbolOf}

-- symbol 0 has the blank's letter, and no two symbols have one letter
pub record HasAlphabet (t : Named) : Type 0 where
  pub begins : slice_get t.letters 0 ≡ Some blank
  pub apart : (m n b : ℕ) → slice_get t.letters m ≡ Some b → slice_get t.letters n ≡ Some b → m ≡ n

pub table_alphabet : (t : Named) → IsTable t → HasAlphabet t
table_alphabet t h = record { begins = blank_first t h; apart = one_symbol t h }

-- a byte with a place among the letters is one of them
pub letter_at : (t : Named) (byte symbol : ℕ) → slice_get t.letters symbol ≡ Some byte → Contains t.letters byte
letter_at t byte symbol here = (
  symbol,
  slice_get_within t.letters symbol byte here,
  get_or_from_slice_get t.letters symbol byte byte here,
)

-- what a table's answer says of a byte that isn't the blank's letter
pub symbol_found : (t : Named) → HasAlphabet t → (byte : ℕ) → byte ≢ blank → (o : Option ℕ)
    → IfSome o (λ s. slice_get t.letters s ≡ Some byte) →
    IfNone o (Contains t.letters byte → ⊥) → MatchOption o (IsLetterOf t byte → ⊥) (IsSymbolOf t byte)
symbol_found t h byte apart None found none = λ letter. none letter.known
symbol_found t h byte apart (Some s) found none = record {
  letter = record { known = letter_at t byte s found; apart = apart };
  nonblank = λ e.
      let first : slice_get t.letters 0 ≡ Some blank = h.begins in
      let here : slice_get t.letters 0 ≡ Some byte = subst (λ (i : ℕ). slice_get t.letters i ≡ Some byte) e found in
      apart (cc);
  stands = found;
}

-- the letters of one symbol more
pub letters_of-more : (t : Named) (symbols : List ℕ) (s byte : ℕ) → slice_get t.letters s ≡ Some byte →
    letters_of t (symbols ++ s ∷ []) ≡ letters_of t symbols ++ byte ∷ []
letters_of-more t symbols s byte here =
    map-append (λ symbol. get_or t.letters symbol 0) symbols (s ∷ [])
    ∙ ap (λ (b : ℕ). letters_of t symbols ++ b ∷ []) (get_or_from_slice_get t.letters s byte 0 here)

-- the first n bytes of a word have these symbols, and each is a letter other than the blank's
pub record SpelledSoFar (t : Named) (word : List ℕ) (n : ℕ) (symbols : List ℕ) : Type 0 where
  pub spelled : IsSpelledBy t (take n word) symbols
  pub before : AllBefore (IsLetterOf t) word (suc n)

pub none_so_far : (t : Named) (word : List ℕ) → SpelledSoFar t word 0 []
none_so_far t word = record {
  spelled = record { letters = refl; symbols_known = λ k d h. absurd (omega arith) };
  before = all_before_one (IsLetterOf t) word;
}

-- the byte at n, counted from 0, is numbered n + 1
at_number : (word : List ℕ) (n : ℕ) → n < length word → nth word (suc n) ≡ Some (get_or word n 0)
at_number word n h = slice_get-get_or word n 0 h

pub one_more : (t : Named) (word : List ℕ) (n : ℕ) (symbols : List ℕ) (s : ℕ) → n < length word
    → SpelledSoFar t word n symbols →
    IsSymbolOf t (get_or word n 0) s → SpelledSoFar t word (n + 1) (symbols ++ s ∷ [])
one_more t word n symbols s inside h symbol = record {
  spelled = record {
    letters =
        take_more word n 0 inside
        ∙ ap (λ (front : List ℕ). front ++ get_or word n 0 ∷ []) h.spelled.letters
        ∙ sym (letters_of-more t symbols s (get_or word n 0) symbol.stands);
    symbols_known = All-push (IsLetterSymbol t) symbols s h.spelled.symbols_known (record {
      letter = symbol.nonblank;
      known = slice_get_within t.letters s (get_or word n 0) symbol.stands;
    });
  };
  before =
      let more : AllBefore (IsLetterOf t) word (suc (suc n)) = all_before_more (IsLetterOf t) word (suc n)
      (get_or word n 0) h.before
      (at_number word n inside) symbol.letter in
      let e : suc (suc n) ≡ suc (n + 1) = omega arith in
      subst (AllBefore (IsLetterOf t) word) e more;
}

-- the byte behind them is the first that is foreign
pub first_foreign : (t : Named) (word : List ℕ) (n : ℕ) (symbols : List ℕ) → n < length word
    → SpelledSoFar t word n symbols →
    (IsLetterOf t (get_or word n 0) → ⊥) → IsFirstForeign t word (n + 1)
first_foreign t word n symbols inside h foreign =
    let e : suc n ≡ n + 1 = omega arith in
    subst (IsFirstForeign t word) e (record {
      byte = get_or word n 0;
      stands = at_number word n inside;
      foreign = foreign;
      before = h.before;
    })

-- the letters of the symbols up to one more
pub letters_of-next : (t : Named) (text symbols : List ℕ) (n byte : ℕ) → n < length symbols
    → slice_get t.letters (get_or symbols n 0) ≡ Some byte →
    (text ++ letters_of t (take n symbols)) ++ byte ∷ [] ≡ text ++ letters_of t (take (n + 1) symbols)
letters_of-next t text symbols n byte inside here =
    append_assoc text (letters_of t (take n symbols)) (byte ∷ [])
    ∙ ap (λ (rest : List ℕ). text ++ rest) (sym (letters_of-more t (take n symbols) (get_or symbols n 0) byte here)
    ∙ ap (letters_of t) (sym (take_more symbols n 0 inside)))

-- the letters of the first symbols, and those of the rest
pub letters_of-front : (t : Named) (symbols : List ℕ) (n : ℕ)
    → letters_of t symbols ≡ letters_of t (take n symbols) ++ letters_of t (drop n symbols)
letters_of-front t symbols n =
    ap (letters_of t) (sym (take-append-drop n symbols))
    ∙ map-append (λ symbol. get_or t.letters symbol 0) (take n symbols) (drop n symbols)
