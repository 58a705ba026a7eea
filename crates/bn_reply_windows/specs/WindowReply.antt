-- The answer of the command `window`: the least window of a table's machine and a word, from the machine's own run
-- (Bennett 1973 for the machine; the window and the text are this project's own profile).
use Rattle.std.specs.Prelude.{◌≡◌, ℕ, List, [], ◌∷◌, codes, decimal}
use Rattle.bn_circuits.specs.declared.place.Place.{Place}
use Rattle.bn_machine.specs.Outcome.{Limits}
use Rattle.bn_machine.specs.Run.{HasEnding, Running}
use Rattle.bn_extents.specs.LeastWindow.{EndsWithin, IsLeastWindow}
use Rattle.bn_table.specs.Rows.{Named}
use Rattle.bn_reply.specs.Answering.{IsSettled}
use Rattle.bn_reply.specs.Lines.{line, running_line}
use Rattle.bn_reply.specs.TableReply.{StandardReplies, WordReplies}
use Rattle.bn_reply.specs.declared.status.Status.{Status}
use Rattle.bn_reply.specs.declared.status.Status.TheVariants as statuses

-- the line of a window: the cells left and right of position 0 on tape 1, the steps that tape 2 holds, and the cells
-- right of position 0 on tape 3
abbrev pub least_line : Limits → List ℕ
least_line l =
    line (codes "window " ∷ decimal l.left ∷ codes " " ∷ decimal l.right ∷ codes " " ∷ decimal l.steps ∷ codes " "
    ∷ decimal l.output ∷ [])

-- The machine's own run from these symbols halts or is stuck within n steps, and the text has the least window; or it
-- still runs after n steps.
pub data TellsWindow (t : Named) (n : ℕ) (symbols : List ℕ) (status : Status) (text : List ℕ) (told : List Place) :
    Type 0 where
  ends : EndsWithin t.machine symbols n → (l : Limits) → IsLeastWindow t.machine symbols l → text ≡ least_line l
      → status ≡ statuses.Done → told ≡ [] → TellsWindow t n symbols status text told
  runs : HasEnding t.machine symbols n n Running → text ≡ running_line n → status ≡ statuses.Inside → told ≡ []
      → TellsWindow t n symbols status text told

-- The answer of `window` to a word, a greatest number of steps n, and these bytes. Refusals are those of `machine`: an
-- error of the bytes comes first, then one of the machine, then one of the word.
abbrev pub WindowReplies : List ℕ → ℕ → List ℕ → Status → List ℕ → List Place → Type 0
WindowReplies word n = StandardReplies (λ t. WordReplies (TellsWindow t n) t word)

-- it has exactly one answer to all words, numbers of steps and bytes
abbrev pub WindowIsSettled : Type 0
WindowIsSettled = (word : List ℕ) (n : ℕ) (bytes : List ℕ) → IsSettled (WindowReplies word n bytes)
