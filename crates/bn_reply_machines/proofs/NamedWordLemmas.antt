-- A word has the names of one list of symbols, or a first place with another name, and not both.
use Rattle.std.specs.Prelude.{◌≡◌, ◌≢◌, ℕ, zero, suc, ◌+◌, ◌-◌, ◌<◌, ◌≤◌, ◌⊎◌, ◌++◌, List, [], ◌∷◌, Contains, Bool}
use Rattle.std.specs.Prelude.{IfNone, IfSome, MatchOption, Option, Some, None, bytes_eq, false, length, refl}
use Rattle.std.specs.Prelude.{slice_get, true}
use Rattle.std.proofs.Common.{append_assoc, arith, inl, inr, sym, subst, ap, get_or, ◌∙◌}
use Rattle.std.proofs.lemmas.Bool.{cases_lt, false≢true}
use Rattle.std.proofs.lemmas.Grind.{same_number_lists}
use Rattle.std.proofs.lemmas.List.{append-nil, get_or-append_right, get_or-map, get_or_append_left}
use Rattle.std.proofs.lemmas.List.{length-append, length-map, map-append}
use Rattle.std.proofs.lemmas.List.Elements.{All-push}
use Rattle.std.proofs.lemmas.Option.{get_or_from_slice_get, slice_get-get_or, slice_get_within}
use Rattle.std.proofs.lemmas.Slice.Eq.{bytes_eq-Decides}
use Rattle.bn_lists.specs.Lists.{nth}
use Rattle.bn_qtable.specs.Rows.{blank_name}
use Rattle.bn_reply_machines.specs.NamedWords.{IsFirstUnnamed, IsNameOn, IsNamedBy, IsNamedSoFar, IsSymbolNamed}
use Rattle.bn_reply_machines.specs.NamedWords.{IsSymbolOn, names_of}
use Rattle.bn_reply_machines.specs.Opened.{IsAlphabet}

some_once : {X : Type 0} {x y : X} → Some x ≡ Some y → x ≡ y
some_once e = cc

-- ---- the symbol of a name

name_there : (names : List (List ℕ)) (s : ℕ) (name : List ℕ) → slice_get names s ≡ Some name → Contains names name
name_there names s name here = (s, slice_get_within names s name here, get_or_from_slice_get names s name name here)

-- what a search of the names says of a name that isn't the blank's
pub name_found : (names : List (List ℕ)) → IsAlphabet names → (name : List ℕ) → name ≢ blank_name → (o : Option ℕ) →
    IfSome o (λ s. slice_get names s ≡ Some name) → IfNone o (Contains names name → ⊥) →
    MatchOption o (IsNameOn names name → ⊥) (IsSymbolNamed names name)
name_found names a name apart None found none = λ is. none is.known
name_found names a name apart (Some s) found none = record {
  is_name = record { known = name_there names s name found; apart = apart };
  nonblank = λ e.
      let here : slice_get names 0 ≡ Some name = subst (λ (i : ℕ). slice_get names i ≡ Some name) e found in
      apart (some_once (sym here ∙ a.begins));
  stands = found;
}

-- a symbol other than the blank has such a name
symbol_name : (names : List (List ℕ)) → IsAlphabet names → (s : ℕ) → IsSymbolOn names s →
    IsNameOn names (get_or names s [])
symbol_name names a s is =
    let here : slice_get names s ≡ Some (get_or names s []) = slice_get-get_or names s [] is.known in
    record {
      known = name_there names s (get_or names s []) here;
      apart = λ e. is.nonblank (a.apart.same blank_name s 0 (here ∙ ap (λ (n : List ℕ). Some n) e) a.begins);
    }

same_name : (xs ys : List ℕ) → (xs ≡ ys) ⊎ (xs ≡ ys → ⊥)
same_name xs ys = by (bytes_eq xs ys) refl
  where
    by : (b : Bool) → bytes_eq xs ys ≡ b → (xs ≡ ys) ⊎ (xs ≡ ys → ⊥)
    by true e = inl ((bytes_eq-Decides xs ys).0 e)
    by false e = inr (λ same. false≢true (sym e ∙ (bytes_eq-Decides xs ys).1 same))

place_or_none : (names : List (List ℕ)) (name : List ℕ) →
    ((k : ℕ) × (slice_get names k ≡ Some name)) ⊎ (Contains names name → ⊥)
place_or_none [] name = inr (λ c. let inside = c.1 in absurd (omega arith))
place_or_none (first ∷ names) name = elim (same_name first name) [
  | inl here ↦ inl (0, ap (λ (n : List ℕ). Some n) here)
  | inr other ↦ elim (place_or_none names name) [
    | inl there ↦ inl (suc there.0, there.1)
    | inr none ↦ inr (λ c. further first names name other none c.0 c.1 c.2)
  ]
]
  where
    further : (first : List ℕ) (names : List (List ℕ)) (name : List ℕ) → (first ≡ name → ⊥) →
        (Contains names name → ⊥) → (k : ℕ) → k < length (first ∷ names) → get_or (first ∷ names) k name ≡ name → ⊥
    further first names name other none zero inside e = other e
    further first names name other none (suc k) inside e = none (k, omega arith, e)

symbol_or_none : (names : List (List ℕ)) → IsAlphabet names → (name : List ℕ) →
    ((s : ℕ) × IsSymbolNamed names name s) ⊎ (IsNameOn names name → ⊥)
symbol_or_none names a name = elim (same_name name blank_name) [
  | inl same ↦ inr (λ is. is.apart same)
  | inr apart ↦ elim (place_or_none names name) [
    | inl there ↦ inl (there.0, name_found names a name apart (Some there.0) there.1 tt)
    | inr none ↦ inr (λ is. none is.known)
  ]
]

-- ---- the names so far

pub none_named : (names word : List (List ℕ)) → IsNamedSoFar names word [] word
none_named names word = record { word_is = refl; symbols_known = λ k d inside. absurd (omega arith) }

pub one_named : (names word : List (List ℕ)) (symbols : List ℕ) (name : List ℕ) (rest : List (List ℕ)) (s : ℕ) →
    IsNamedSoFar names word symbols (name ∷ rest) → IsSymbolNamed names name s →
    IsNamedSoFar names word (symbols ++ s ∷ []) rest
one_named names word symbols name rest s h is = record {
  word_is =
      let last : get_or names s [] ≡ name = get_or_from_slice_get names s name [] is.stands in
      let more : names_of names (symbols ++ s ∷ []) ≡ names_of names symbols ++ name ∷ [] =
      map-append (λ symbol. get_or names symbol []) symbols (s ∷ [])
      ∙ ap (λ (n : List ℕ). names_of names symbols ++ n ∷ []) last in
      h.word_is
      ∙ sym (append_assoc (names_of names symbols) (name ∷ []) rest)
      ∙ ap (λ (front : List (List ℕ)). front ++ rest) (sym more);
  symbols_known = All-push (IsSymbolOn names) symbols s h.symbols_known (record {
    nonblank = is.nonblank;
    known = slice_get_within names s name is.stands;
  });
}

pub all_named : (names word : List (List ℕ)) (symbols : List ℕ) → IsNamedSoFar names word symbols [] →
    IsNamedBy names word symbols
all_named names word symbols h = record {
  spelled = h.word_is ∙ append-nil (names_of names symbols);
  symbols_known = h.symbols_known;
}

count_of : (names : List (List ℕ)) (symbols : List ℕ) → length (names_of names symbols) ≡ length symbols
count_of names symbols = simp length-map

-- the name behind those of the symbols is the first that is unnamed
pub first_unnamed : (names word : List (List ℕ)) → IsAlphabet names → (symbols : List ℕ) (name : List ℕ)
    (rest : List (List ℕ)) → IsNamedSoFar names word symbols (name ∷ rest) → (IsNameOn names name → ⊥) →
    IsFirstUnnamed names word (length symbols + 1)
first_unnamed names word a symbols name rest h none =
    let e : suc (length symbols) ≡ length symbols + 1 = omega arith in
    subst (IsFirstUnnamed names word) e (record {
      name = name;
      stands = sym (ap (λ (w : List (List ℕ)). slice_get w (length symbols)) (sym h.word_is)) ∙ there;
      unnamed = none;
      before = record { each = before };
    })
  where
    count : length (names_of names symbols) ≡ length symbols
    count = count_of names symbols

    there : slice_get (names_of names symbols ++ name ∷ rest) (length symbols) ≡ Some name
    there =
        let long : length (names_of names symbols ++ name ∷ rest) ≡ length (names_of names symbols)
        + suc (length rest) =
        simp length-append in
        slice_get-get_or (names_of names symbols ++ name ∷ rest) (length symbols) name (omega (arith, long, count))
        ∙ ap (λ (n : List ℕ). Some n) (get_or-append_right (names_of names symbols) (name ∷ rest) (length symbols)
        (length symbols) name count (omega arith)
        ∙ ap (λ (k : ℕ). get_or (name ∷ rest) k name) (zero_of (length symbols)))
      where
        zero_of : (n : ℕ) → n - n ≡ 0
        zero_of n = omega arith

    before : (m : ℕ) (x : List ℕ) → m < suc (length symbols) → nth word m ≡ Some x → IsNameOn names x
    before zero x low e = absurd (cc)
    before (suc k) x low e =
        let inside : k < length symbols = omega arith in
        let front : k < length (names_of names symbols) = omega (arith, count, inside) in
        let here : get_or word k [] ≡ x = get_or_from_slice_get word k x [] e in
        let same : get_or word k [] ≡ get_or names (get_or symbols k 0) [] =
        ap (λ (w : List (List ℕ)). get_or w k []) h.word_is
        ∙ get_or_append_left (names_of names symbols) (name ∷ rest) [] k front
        ∙ get_or-map (λ symbol. get_or names symbol []) symbols k 0 [] inside in
        subst (IsNameOn names) (sym same ∙ here) (symbol_name names a (get_or symbols k 0) (h.symbols_known k 0 inside))

-- ---- one list of symbols

name_at : (names word : List (List ℕ)) (symbols : List ℕ) (k : ℕ) → IsNamedBy names word symbols → k < length symbols →
    get_or word k [] ≡ get_or names (get_or symbols k 0) []
name_at names word symbols k h inside =
    ap (λ (w : List (List ℕ)). get_or w k []) h.spelled
    ∙ get_or-map (λ symbol. get_or names symbol []) symbols k 0 [] inside

pub named_length : (names word : List (List ℕ)) (symbols : List ℕ) → IsNamedBy names word symbols →
    length word ≡ length symbols
named_length names word symbols h = ap length h.spelled ∙ count_of names symbols

pub not_unnamed : (names word : List (List ℕ)) → IsAlphabet names → (symbols : List ℕ) (p : ℕ) →
    IsNamedBy names word symbols → IsFirstUnnamed names word p → ⊥
not_unnamed names word a symbols p s f = by_place p f.stands
  where
    by_place : (p : ℕ) → nth word p ≡ Some f.name → ⊥
    by_place zero e = cc e
    by_place (suc k) e =
        let within : k < length word = slice_get_within word k f.name e in
        let count = named_length names word symbols s in
        let inside : k < length symbols = omega (arith, within, count) in
        let here : get_or word k [] ≡ f.name = get_or_from_slice_get word k f.name [] e in
        let is = symbol_name names a (get_or symbols k 0) (s.symbols_known k 0 inside) in
        f.unnamed (subst (IsNameOn names) (sym (name_at names word symbols k s inside) ∙ here) is)

pub unnamed_once : (names word : List (List ℕ)) (p q : ℕ) → IsFirstUnnamed names word p → IsFirstUnnamed names word q →
    p ≡ q
unnamed_once names word p q f g = by_order (cases_lt p q) (cases_lt q p)
  where
    by_order : (p < q) ⊎ (q ≤ p) → (q < p) ⊎ (p ≤ q) → p ≡ q
    by_order (inl h) k = absurd (f.unnamed (g.before.each p f.name h f.stands))
    by_order (inr h) (inl k) = absurd (g.unnamed (f.before.each q g.name k g.stands))
    by_order (inr h) (inr k) = omega arith

pub named_once : (names word : List (List ℕ)) → IsAlphabet names → (xs ys : List ℕ) → IsNamedBy names word xs →
    IsNamedBy names word ys → xs ≡ ys
named_once names word a xs ys f g =
    let counts : length xs ≡ length ys = sym (named_length names word xs f) ∙ named_length names word ys g in
    same_number_lists xs ys counts (λ k low. same k low counts)
  where
    same : (k : ℕ) → k < length xs → length xs ≡ length ys → get_or xs k 0 ≡ get_or ys k 0
    same k low counts =
        let also : k < length ys = omega arith in
        let first = slice_get-get_or names (get_or xs k 0) [] (f.symbols_known k 0 low).known in
        let second = slice_get-get_or names (get_or ys k 0) [] (g.symbols_known k 0 also).known in
        let one : get_or names (get_or xs k 0) [] ≡ get_or names (get_or ys k 0) [] =
        sym (name_at names word xs k f low) ∙ name_at names word ys k g also in
        a.apart.same (get_or names (get_or ys k 0) []) (get_or xs k 0) (get_or ys k 0)
        (first ∙ ap (λ (n : List ℕ). Some n) one) second

-- ---- one of the two

named_from : (names word : List (List ℕ)) → IsAlphabet names → (rest : List (List ℕ)) (symbols : List ℕ) →
    IsNamedSoFar names word symbols rest →
    ((xs : List ℕ) × IsNamedBy names word xs) ⊎ ((p : ℕ) × IsFirstUnnamed names word p)
named_from names word a [] symbols h = inl (symbols, all_named names word symbols h)
named_from names word a (name ∷ rest) symbols h = elim (symbol_or_none names a name) [
  | inl s ↦ named_from names word a rest (symbols ++ s.0 ∷ []) (one_named names word symbols name rest s.0 h s.1)
  | inr none ↦ inr (length symbols + 1, first_unnamed names word a symbols name rest h none)
]

-- a word has the names of symbols, or it has a first place with another
pub named_or_unnamed : (names word : List (List ℕ)) → IsAlphabet names →
    ((symbols : List ℕ) × IsNamedBy names word symbols) ⊎ ((p : ℕ) × IsFirstUnnamed names word p)
named_or_unnamed names word a = named_from names word a word [] (none_named names word)
