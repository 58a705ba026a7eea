-- The answers to words on tapes of a machine of quadruples (this project's own definition).
use Rattle.std.specs.Prelude.{◌≡◌, ℕ, List, []}
use Rattle.bn_circuits.specs.declared.place.Place.{Place}
use Rattle.bn_quad.specs.Names.{Naming}
use Rattle.bn_qtable.specs.TapeWords.{One, TapeWords, Three, names_on}
use Rattle.bn_reply.specs.Lines.{foreign_line}
use Rattle.bn_reply.specs.declared.status.Status.{Status}
use Rattle.bn_reply.specs.declared.status.Status.TheVariants as statuses
use Rattle.bn_reply_machines.specs.NamedWords.{IsFirstUnnamed, IsNamedBy}
use Rattle.bn_reply_machines.specs.QuadReply.{tape_foreign_line}

-- The answer to a word on a tape whose symbols have these names, where `tells` is the answer to the symbols whose names
-- it has: the line of the first place that has another name, or the blank's, or that answer.
pub data NamedWordReplies (line_of : ℕ → List ℕ) (tells : List ℕ → Status → List ℕ → List Place → Type 0)
    (names word : List (List ℕ)) (status : Status) (text : List ℕ) (told : List Place) : Type 0 where
  unnamed : (p : ℕ) → IsFirstUnnamed names word p → text ≡ line_of p → status ≡ statuses.Word → told ≡ []
      → NamedWordReplies line_of tells names word status text told
  named : (symbols : List ℕ) → IsNamedBy names word symbols → tells symbols status text told
      → NamedWordReplies line_of tells names word status text told

-- the line of the first place of the word on a tape that has no symbol's name, or has the blank's; with a word on each
-- tape it names the tape
abbrev pub unnamed_line : TapeWords → ℕ → ℕ → List ℕ
unnamed_line (One word) tape p = foreign_line p
unnamed_line (Three first second third) tape p = tape_foreign_line tape p

-- The answer to words on tapes whose symbols have these names, where `tells` is the answer to their symbols: the first
-- tape whose word has a name that is not allowed, or that answer.
abbrev pub WordsReplies : TapeWords → (List ℕ → List ℕ → List ℕ → Status → List ℕ → List Place → Type 0) → Naming
    → Status → List ℕ → List Place → Type 0
WordsReplies words tells names = NamedWordReplies (unnamed_line words 1) (λ one.
    NamedWordReplies (unnamed_line words 2) (λ two.
    NamedWordReplies (unnamed_line words 3) (λ three. tells one two three) names.three (names_on words 3))
    names.two (names_on words 2)) names.one (names_on words 1)
