-- The letters of a table, and a word of them.
use Rattle.std.specs.Prelude.{◌≡◌, ◌≢◌, ℕ, ◌<◌, List, length, All, Contains, map, slice_index, Some}
use Rattle.bn_lists.specs.Lists.{nth, AllBefore}
use Rattle.bn_table.specs.Rows.{Named, blank}

-- the letters of symbols
abbrev pub letters_of : Named → List ℕ → List ℕ
letters_of t symbols = map (λ symbol. slice_index t.letters symbol) symbols

-- the byte is a letter of the table, and not the blank's
pub record IsLetterOf (t : Named) (byte : ℕ) : Type 0 where
  pub known : Contains t.letters byte
  pub apart : byte ≢ blank

-- the byte at place p of the word, counted from 1, is the first that is no letter of the table or is the blank's
pub record IsFirstForeign (t : Named) (word : List ℕ) (p : ℕ) : Type 0 where
  pub byte : ℕ
  pub stands : nth word p ≡ Some byte
  pub foreign : IsLetterOf t byte → ⊥
  pub before : AllBefore (IsLetterOf t) word p

-- the symbol is one of the table's, and not the blank
pub record IsLetterSymbol (t : Named) (symbol : ℕ) : Type 0 where
  pub letter : symbol ≢ 0
  pub known : symbol < length t.letters

-- the word is spelled by these symbols, none of which is the blank
pub record IsSpelledBy (t : Named) (word symbols : List ℕ) : Type 0 where
  pub letters : word ≡ letters_of t symbols
  pub symbols_known : All (IsLetterSymbol t) symbols
