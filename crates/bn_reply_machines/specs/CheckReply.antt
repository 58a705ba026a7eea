-- The answer of the command `check` (this project's own definition).
use Rattle.std.specs.Prelude.{ℕ, List, [], ◌∷◌, length, codes, decimal}
use Rattle.bn_circuits.specs.declared.place.Place.{Place}
use Rattle.bn_machine.specs.Machine.{Program}
use Rattle.bn_reply.specs.Answering.{IsDone, IsSettled}
use Rattle.bn_reply.specs.Lines.{line}
use Rattle.bn_reply.specs.TableReply.{StandardReplies}
use Rattle.bn_reply.specs.declared.status.Status.{Status}

-- the line of a machine in standard form: its numbers of states, of symbols with the blank, and of quintuples
abbrev pub standard_line : Program → List ℕ
standard_line p = line (codes "standard states " ∷ decimal p.states ∷ codes " symbols " ∷ decimal p.symbols ∷ codes
    " quintuples " ∷ decimal (length p.quints) ∷ [])

-- the answer of `check` to these bytes: to a table whose machine is in standard form, its size
abbrev pub CheckReplies : List ℕ → Status → List ℕ → List Place → Type 0
CheckReplies = StandardReplies (λ t. IsDone (standard_line t.machine))

-- it has exactly one answer to all bytes
abbrev pub CheckIsSettled : Type 0
CheckIsSettled = (bytes : List ℕ) → IsSettled (CheckReplies bytes)
