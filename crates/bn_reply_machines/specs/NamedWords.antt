-- Words on tapes by the names of their symbols (this project's own definition).
use Rattle.std.specs.Prelude.{◌≡◌, ◌≢◌, ℕ, ◌<◌, ◌++◌, List, All, Contains, Some, length, map, slice_get}
use Rattle.std.specs.Prelude.{slice_index_or, []}
use Rattle.bn_lists.specs.Lists.{AllBefore, nth}
use Rattle.bn_quad.specs.Names.{Naming}
use Rattle.bn_qtable.specs.Rows.{blank_name}
use Rattle.bn_qtable.specs.TapeWords.{TapeWords, names_on}

-- the name is one of a tape's symbols, and not the blank's
pub record IsNameOn (names : List (List ℕ)) (name : List ℕ) : Type 0 where
  pub known : Contains names name
  pub apart : name ≢ blank_name

-- the symbol has the name, which is not the blank's
pub record IsSymbolNamed (names : List (List ℕ)) (name : List ℕ) (symbol : ℕ) : Type 0 where
  pub is_name : IsNameOn names name
  pub nonblank : symbol ≢ 0
  pub stands : slice_get names symbol ≡ Some name

-- the name at place p of the word, counted from 1, is the first that is not that of a symbol, or is the blank's
pub record IsFirstUnnamed (names word : List (List ℕ)) (p : ℕ) : Type 0 where
  pub name : List ℕ
  pub stands : nth word p ≡ Some name
  pub unnamed : IsNameOn names name → ⊥
  pub before : AllBefore (IsNameOn names) word p

-- the symbol is one of a tape with these names, and not the blank
pub record IsSymbolOn (names : List (List ℕ)) (symbol : ℕ) : Type 0 where
  pub nonblank : symbol ≢ 0
  pub known : symbol < length names

-- the names of symbols
abbrev pub names_of : List (List ℕ) → List ℕ → List (List ℕ)
names_of names symbols = map (λ symbol. slice_index_or names symbol []) symbols

-- the word's names are those of these symbols, none of which is the blank
pub record IsNamedBy (names word : List (List ℕ)) (symbols : List ℕ) : Type 0 where
  pub spelled : word ≡ names_of names symbols
  pub symbols_known : All (IsSymbolOn names) symbols

-- the word's names are those of these symbols, and then the rest
pub record IsNamedSoFar (names word : List (List ℕ)) (symbols : List ℕ) (rest : List (List ℕ)) : Type 0 where
  pub word_is : word ≡ names_of names symbols ++ rest
  pub symbols_known : All (IsSymbolOn names) symbols

-- the words on the three tapes have the names of these symbols
pub record AreNamedBy (words : TapeWords) (names : Naming) (one two three : List ℕ) : Type 0 where
  pub on_one : IsNamedBy names.one (names_on words 1) one
  pub on_two : IsNamedBy names.two (names_on words 2) two
  pub on_three : IsNamedBy names.three (names_on words 3) three
