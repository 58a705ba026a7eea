-- The line of a configuration of a machine's own run (this project's own definition).
use Rattle.std.specs.Prelude.{◌≡◌, ℕ, zero, suc, ◌⊎◌, ℤ, pos, ◌+ℤ◌, List, [], ◌∷◌, ◌++◌, Option, Some, None, codes}
use Rattle.std.specs.Prelude.{decimal, slice_index, slice_index_or}
use Rattle.bn_machine.specs.Machine.{GoesBy, IsFinal, IsMachineStuck, Moment, Program}
use Rattle.bn_machine.specs.Run.{After}
use Rattle.bn_machine.specs.Tape.{Tape, cell}
use Rattle.bn_machine.specs.Window.{anywhere}
use Rattle.bn_table.specs.Rows.{Named}
use Rattle.bn_reply.specs.Lines.{line, position_text}
use Rattle.bn_reply_traces.specs.Extents.{IsFirst, IsLast, symbols_from}

-- the names of symbols, a space before each
abbrev pub names_text : (ℕ → List ℕ) → List ℕ → List ℕ
names_text name [] = []
names_text name (s ∷ ss) = codes " " ++ (name s ++ names_text name ss)

-- the text of a tape: the position of the first cell that is shown, that of the head, how many cells are shown, and
-- their symbols by name
abbrev pub tape_text : (ℕ → List ℕ) → ℤ → ℤ → List ℕ → ℕ → List ℕ
tape_text name first head symbols count =
    codes " from " ++ (position_text first ++ (codes " head " ++ (position_text head ++ (codes " cells "
    ++ (decimal count ++ (codes ":" ++ names_text name symbols))))))

-- the text shows all cells of the tape from the first to the last that has a letter or the head
pub record IsTapeText (name : ℕ → List ℕ) (t : Tape) (text : List ℕ) : Type 0 where
  pub first : ℤ
  pub last : ℤ
  pub count : ℕ
  pub begins : IsFirst t first
  pub ends : IsLast t last
  pub counted : (first +ℤ pos count) ≡ (last +ℤ pos 1)
  pub is : text ≡ tape_text name first t.head (symbols_from (cell t) first count) count

-- the number of the quintuple that is applied next, counted from 1, if there is one
abbrev pub rule_text : Option ℕ → List ℕ
rule_text None = []
rule_text (Some n) = codes " rule " ++ decimal n

-- the quintuple that the machine applies in a configuration; none if it halts or is stuck
abbrev pub IsNext : Program → Moment → Option ℕ → Type 0
IsNext p c None = IsFinal p c ⊎ IsMachineStuck p c
IsNext p c (Some n) = (d : Moment) × GoesBy anywhere p n c d

-- the letter of a symbol
abbrev pub letter_text : Named → ℕ → List ℕ
letter_text t s = slice_index t.letters s ∷ []

-- the text is the line of this configuration, reached after this many steps
pub record IsMomentLine (t : Named) (i : ℕ) (c : Moment) (text : List ℕ) : Type 0 where
  pub tape : List ℕ
  pub tape_is : IsTapeText (letter_text t) c.tape tape
  pub rule : Option ℕ
  pub next : IsNext t.machine c rule
  pub is : text ≡ line (decimal i ∷ codes " " ∷ slice_index_or t.names c.state [] ∷ tape ∷ rule_text rule ∷ [])

-- the text is the line of the configuration after i steps of the machine's own run from these symbols
abbrev pub IsLineAfter : Named → List ℕ → ℕ → List ℕ → Type 0
IsLineAfter t symbols i text = (c : Moment) × After t.machine symbols i c × IsMomentLine t i c text

-- the text is the first k lines, in order, where the relation says which line has the number i, counted from 0
abbrev pub AreLines : (ℕ → List ℕ → Type 0) → ℕ → List ℕ → Type 0
AreLines IsLine zero text = text ≡ []
AreLines IsLine (suc k) text =
    (front : List ℕ) × (last : List ℕ) × AreLines IsLine k front × IsLine k last × (text ≡ front ++ last)
