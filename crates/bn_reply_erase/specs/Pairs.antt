-- The answers of the commands on two tables: the input is a first table, a line `%`, and a second table. Faults of the
-- texts are reported first, then those of the machines, each time the first table's before the second's (this
-- project's own profile).
use Rattle.std.specs.Prelude.{◌≡◌, ℕ, List, [], ◌∷◌, ◌++◌, codes, if◌then◌else◌, ◌==◌}
use Rattle.bn_circuits.specs.declared.place.Place.{Place}
use Rattle.bn_table.specs.Reading.{Reads}
use Rattle.bn_table.specs.Rows.{Named}
use Rattle.bn_machine.specs.Standard.{IsStandard}
use Rattle.bn_base.specs.Cuts.{IsCut, IsUncut}
use Rattle.bn_reply.specs.Lines.{line}
use Rattle.bn_reply.specs.TableReply.{JudgedReplies, TableReplies, TellsFault, TellsWhy}
use Rattle.bn_reply.specs.declared.status.Status.{Status}
use Rattle.bn_reply.specs.declared.status.Status.TheVariants as statuses

-- the line of an input without a second table
abbrev pub no_second_line : List ℕ
no_second_line = line (codes "text: no second" ∷ [])

-- a line that refuses the second table: `second` and a space follow its first space
abbrev pub with_second : List ℕ → List ℕ
with_second [] = []
with_second (byte ∷ rest) = if byte == 32 then byte ∷ codes "second " ++ rest else byte ∷ with_second rest

-- The answer to the bytes of a second table, where `tells` is the answer to the table: the first fault if the bytes
-- are not a table, or else that answer.
pub data SecondReplies (tells : Named → Status → List ℕ → List Place → Type 0) (bytes : List ℕ) (status : Status)
    (text : List ℕ) (told : List Place) : Type 0 where
  faulty : (refusal : List ℕ) → TellsFault bytes refusal → text ≡ with_second refusal → status ≡ statuses.Text
      → told ≡ [] → SecondReplies tells bytes status text told
  read : (t : Named) → Reads bytes t → tells t status text told → SecondReplies tells bytes status text told

-- The answer to a second table, where `tells` is the answer if its machine is in standard form: the first condition
-- that the machine does not meet, or else that answer.
pub data SecondJudged (tells : Status → List ℕ → List Place → Type 0) (t : Named) (status : Status) (text : List ℕ)
    (told : List Place) : Type 0 where
  unfit : (refusal : List ℕ) → TellsWhy t refusal → text ≡ with_second refusal → status ≡ statuses.Machine → told ≡ []
      → SecondJudged tells t status text told
  fit : IsStandard t.machine.quints → tells status text told → SecondJudged tells t status text told

-- the answer to the bytes of two tables, where `tells` is the answer if both machines are in standard form
abbrev pub TwoReplies : (Named → Named → Status → List ℕ → List Place → Type 0) → List ℕ → List ℕ → Status → List ℕ
    → List Place → Type 0
TwoReplies tells first second =
    TableReplies (λ t. SecondReplies (λ u. JudgedReplies (SecondJudged (tells t u) u) t) second) first

-- The answer to an input: no line is the one before a second table; or the answer to the two tables.
pub data PairReplies (tells : Named → Named → Status → List ℕ → List Place → Type 0) (bytes : List ℕ) (status : Status)
    (text : List ℕ) (told : List Place) : Type 0 where
  uncut : IsUncut bytes → text ≡ no_second_line → status ≡ statuses.Text → told ≡ []
      → PairReplies tells bytes status text told
  cut : (first second : List ℕ) → IsCut bytes first second → TwoReplies tells first second status text told
      → PairReplies tells bytes status text told
