-- The answers of the commands that read a table of quadruples whose machine passes both tests, and words on its tapes
-- (this project's own definition).
use Rattle.std.specs.Prelude.{◌≡◌, ℕ, suc, ◌+◌, List, [], ◌∷◌, codes, decimal}
use Rattle.bn_circuits.specs.declared.place.Place.{Place}
use Rattle.bn_quad.specs.Overlap.{IsDeterministic, IsLeastClash, IsReversible}
use Rattle.bn_quad.specs.declared.clash.Clash.TheVariants.{Domain, Range}
use Rattle.bn_qtable.specs.Reading.{ReadsQuadruples}
use Rattle.bn_qtable.specs.Rows.{QuadTable}
use Rattle.bn_table.specs.Rows.{Named, named_program}
use Rattle.bn_reply.specs.Lines.{line}
use Rattle.bn_reply.specs.Words.{IsFirstForeign, IsSpelledBy}
use Rattle.bn_reply.specs.declared.status.Status.{Status}
use Rattle.bn_reply.specs.declared.status.Status.TheVariants as statuses
use Rattle.bn_reply_machines.specs.ReversibleReply.{TellsQuadFault}

-- ---- the table

-- the line of a machine with two quadruples that overlap, counted from 1, by the name of the test
abbrev pub overlap_line : List ℕ → ℕ → ℕ → List ℕ
overlap_line test i j = line (codes "machine: " ∷ test ∷ codes " " ∷ decimal i ∷ codes " " ∷ decimal j ∷ [])

-- The answer to these bytes, where `tells` is the answer to a table whose machine is deterministic and reversible
-- (Bennett 1973): the error of bytes that are no table, the least two quadruples that overlap in domain, the least two
-- that overlap in range, or that answer.
pub data QuadReplies (tells : QuadTable → Status → List ℕ → List Place → Type 0) (bytes : List ℕ) (status : Status)
    (text : List ℕ) (told : List Place) : Type 0 where
  faulty : TellsQuadFault bytes text → status ≡ statuses.Text → told ≡ [] → QuadReplies tells bytes status text told
  domain : (t : QuadTable) → ReadsQuadruples bytes t → (i j : ℕ) → IsLeastClash Domain t.machine.rules i j
      → text ≡ overlap_line (codes "domain") i j → status ≡ statuses.Machine → told ≡ []
      → QuadReplies tells bytes status text told
  range : (t : QuadTable) → ReadsQuadruples bytes t → IsDeterministic t.machine.rules → (i j : ℕ)
      → IsLeastClash Range t.machine.rules i j → text ≡ overlap_line (codes "range") i j → status ≡ statuses.Machine
      → told ≡ [] → QuadReplies tells bytes status text told
  passes : (t : QuadTable) → ReadsQuadruples bytes t → IsDeterministic t.machine.rules → IsReversible t.machine.rules
      → tells t status text told → QuadReplies tells bytes status text told

-- a table that passes has no answer here, so every answer is a refusal
abbrev pub nothing : QuadTable → Status → List ℕ → List Place → Type 0
nothing t status text told = ⊥

-- ---- the words

-- the letter of symbol s: the byte of its name, if the name has one byte; otherwise a number that is no byte, and that
-- no other symbol has
abbrev pub letter_of : ℕ → List ℕ → ℕ
letter_of s (byte ∷ []) = byte
letter_of s name = 256 + s

-- the letters of the symbols from number s on, which have these names
abbrev pub letters_from : ℕ → List (List ℕ) → List ℕ
letters_from s [] = []
letters_from s (name ∷ names) = letter_of s name ∷ letters_from (suc s) names

-- the letters of a tape whose symbols have these names; words consist of them alone
abbrev pub lettered : List (List ℕ) → Named
lettered names = named_program (record { quints = []; states = 0; symbols = 0 }) [] (letters_from 0 names)

-- the line of the first place of the word on a tape, both counted from 1, that has no letter of the tape or has the
-- blank's
abbrev pub tape_foreign_line : ℕ → ℕ → List ℕ
tape_foreign_line tape p = line (codes "word: " ∷ decimal tape ∷ codes " " ∷ decimal p ∷ [])

-- The answer to a word on a tape whose symbols have these names, where `tells` is the answer to the symbols that spell
-- it: the line of the first foreign place, or that answer.
pub data TapeWordReplies (line_of : ℕ → List ℕ) (tells : List ℕ → Status → List ℕ → List Place → Type 0)
    (names : List (List ℕ)) (word : List ℕ) (status : Status) (text : List ℕ) (told : List Place) : Type 0 where
  foreign : (p : ℕ) → IsFirstForeign (lettered names) word p → text ≡ line_of p → status ≡ statuses.Word → told ≡ []
      → TapeWordReplies line_of tells names word status text told
  spelled : (symbols : List ℕ) → IsSpelledBy (lettered names) word symbols → tells symbols status text told
      → TapeWordReplies line_of tells names word status text told
