-- Words on the tapes of a machine of quadruples, by the names of their symbols (this project's own profile).
use Rattle.std.specs.Prelude.{ℕ, zero, suc, List, [], ◌∷◌, map, ◌==◌, if◌then◌else◌}
use Rattle.bn_qtable.specs.declared.tape_word.TapeWord as declared
use Rattle.bn_qtable.specs.declared.tape_word.TapeWord.TheVariants as variants
use Rattle.bn_qtable.specs.declared.tape_word.TapeWords as declared_words
use Rattle.bn_qtable.specs.declared.tape_word.TapeWords.TheVariants as words

-- a word on one tape: bytes that are each the name of a symbol, or names separated by commas
pub data TapeWord : Type 0 where
  Letters : List ℕ → TapeWord
  Names : List ℕ → TapeWord

-- a word on tape 1 only, or one on each tape, tape 1 first
pub data TapeWords : Type 0 where
  One : TapeWord → TapeWords
  Three : TapeWord → TapeWord → TapeWord → TapeWords

-- ---- the names in a word

-- a comma
abbrev pub comma : ℕ
comma = 44

-- the first of these names with a byte before it
abbrev pub begin_first : ℕ → List (List ℕ) → List (List ℕ)
begin_first byte [] = (byte ∷ []) ∷ []
begin_first byte (name ∷ names) = (byte ∷ name) ∷ names

-- the names between commas, one more than there are commas
abbrev pub names_between : List ℕ → List (List ℕ)
names_between [] = [] ∷ []
names_between (byte ∷ bytes) =
    if byte == comma then [] ∷ names_between bytes else begin_first byte (names_between bytes)

-- the names of a word's symbols, in order; for `Names`, no bytes at all are the empty word
abbrev pub names_of_word : TapeWord → List (List ℕ)
names_of_word (Letters bytes) = map (λ byte. byte ∷ []) bytes
names_of_word (Names []) = []
names_of_word (Names (byte ∷ bytes)) = names_between (byte ∷ bytes)

-- the names of the symbols of the word on a tape, counted from 1
abbrev pub names_on : TapeWords → ℕ → List (List ℕ)
names_on (One word) (suc zero) = names_of_word word
names_on (One word) _ = []
names_on (Three first second third) (suc zero) = names_of_word first
names_on (Three first second third) (suc (suc zero)) = names_of_word second
names_on (Three first second third) (suc (suc (suc zero))) = names_of_word third
names_on (Three first second third) _ = []

-- ---- the words of the program

abbrev pub tape_word_of : declared.TapeWord → TapeWord
tape_word_of (variants.Letters bytes) = Letters bytes.now
tape_word_of (variants.Names bytes) = Names bytes.now

abbrev pub tape_words_of : declared_words.TapeWords → TapeWords
tape_words_of (words.One word) = One (tape_word_of word)
tape_words_of (words.Three first second third) = Three (tape_word_of first) (tape_word_of second) (tape_word_of third)
