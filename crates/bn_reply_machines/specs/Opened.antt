-- A table of quadruples and words on its tapes, opened.
use Rattle.std.specs.Prelude.{◌≡◌, ◌≢◌, ℕ, ◌<◌, ◌^◌, List, [], length, Some, All, slice_get, true}
use Rattle.std.specs.List.{list_all}
use Rattle.bn_csv.specs.Forms.{is_symbol}
use Rattle.bn_quad.specs.Calls.{IsUniformMachine}
use Rattle.bn_quad.specs.Names.{AreApart, Naming}
use Rattle.bn_quad.specs.Overlap.{IsDeterministic, IsReversible}
use Rattle.bn_qtable.specs.Reading.{ReadsQuadruples}
use Rattle.bn_qtable.specs.Rows.{blank_name, table_of}
use Rattle.bn_qtable.specs.TapeWords.{TapeWords}
use Rattle.bn_reply.specs.Words.{IsFirstForeign, IsSpelledBy}
use Rattle.bn_reply_machines.specs.NamedWords.{AreNamedBy, IsFirstUnnamed, IsNamedBy}
use Rattle.bn_reply_machines.specs.QuadReply.{QuadReplies, lettered, nothing}
use Rattle.bn_reply_machines.specs.UniformReply.{UniformReplies}
use Rattle.bn_reply_machines.specs.WordsReply.{NamedWordReplies, WordsReplies}
use Rattle.bn_reply_machines.specs.declared.opening.OpenedQuads.{OpenedQuads}
use Rattle.bn_reply_machines.specs.declared.opening.OpenedQuads.TheVariants as opened
use Rattle.bn_reply_machines.specs.declared.uniform.OpenedUniform.{OpenedUniform}
use Rattle.bn_reply_machines.specs.declared.uniform.OpenedUniform.TheVariants as uniform
use Rattle.bn_reply_machines.specs.declared.tape_names.Spelling.{Spelling}
use Rattle.bn_reply_machines.specs.declared.tape_names.Spelling.TheVariants as spelling
use Rattle.bn_reply_machines.specs.declared.words.SpelledWord.{SpelledWord}
use Rattle.bn_reply_machines.specs.declared.words.SpelledWord.TheVariants as spelled
use Rattle.bn_reply_machines.specs.declared.words.SpelledWords.{SpelledWords}
use Rattle.bn_reply_machines.specs.declared.words.SpelledWords.TheVariants as all

-- ---- a table

-- the bytes' table, whose machine passes both tests, or the answer if there is none
abbrev pub AreOpenedQuads : List ℕ → OpenedQuads → Type 0
AreOpenedQuads bytes (opened.Read m names) = ReadsQuadruples bytes (table_of m names)
    × IsDeterministic m.rules × IsReversible m.rules
AreOpenedQuads bytes (opened.Refused reply) = QuadReplies nothing bytes reply.status reply.text.items []

-- the bytes' table, whose machine passes the two tests and is uniform, or the answer if there is none
abbrev pub IsOpenedUniform : List ℕ → OpenedUniform → Type 0
IsOpenedUniform bytes (uniform.Read m names) = ReadsQuadruples bytes (table_of m names) × IsUniformMachine m
IsOpenedUniform bytes (uniform.Refused reply) =
    QuadReplies (UniformReplies nothing) bytes reply.status reply.text.items []

-- ---- a word

-- the symbols that spell a word on a tape with these names, or its first place that is foreign
abbrev pub IsSpelling : List (List ℕ) → List ℕ → Spelling → Type 0
IsSpelling names word (spelling.Symbols symbols) = IsSpelledBy (lettered names) word symbols.items
IsSpelling names word (spelling.Foreign place) = IsFirstForeign (lettered names) word place

-- the symbols whose names a word has, or its first place that has another
abbrev pub IsNaming : List (List ℕ) → List (List ℕ) → Spelling → Type 0
IsNaming names word (spelling.Symbols symbols) = IsNamedBy names word symbols.items
IsNaming names word (spelling.Foreign place) = IsFirstUnnamed names word place

-- the names of a tape's symbols, the blank's first, all different, and each in its form
pub record IsAlphabet (names : List (List ℕ)) : Type 0 where
  pub begins : slice_get names 0 ≡ Some blank_name
  pub apart : AreApart names
  pub form : list_all is_symbol names ≡ true

-- the word consists of symbols of a tape with these names, of which there is at least one, and no letter is the blank
pub record IsWordOn (names : List (List ℕ)) (word : List ℕ) : Type 0 where
  pub some : 0 < length names
  pub few : length word < 2 ^ 62
  pub letters : All (λ s. s ≢ 0) word
  pub known : All (λ s. s < length names) word

-- the names of each tape's symbols
pub record AreAlphabets (names : Naming) : Type 0 where
  pub one : IsAlphabet names.one
  pub two : IsAlphabet names.two
  pub three : IsAlphabet names.three

-- the symbols of a word on a tape, or the answer if it has another name
abbrev pub IsSpelledWord : (ℕ → List ℕ) → List (List ℕ) → List (List ℕ) → SpelledWord → Type 0
IsSpelledWord line_of names word (spelled.Symbols symbols) = IsNamedBy names word symbols.items
IsSpelledWord line_of names word (spelled.Refused reply) =
    NamedWordReplies line_of (λ symbols status text told. ⊥) names word reply.status reply.text.items []

-- the symbols of the words on the tapes, or the answer if one has another name
abbrev pub AreSpelledWords : TapeWords → Naming → SpelledWords → Type 0
AreSpelledWords words names (all.Symbols one two three) = AreNamedBy words names one.items two.items three.items
AreSpelledWords words names (all.Refused reply) =
    WordsReplies words (λ one two three status text told. ⊥) names reply.status reply.text.items []
