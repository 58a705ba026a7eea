-- The answer of the command `element`: the table of a numbered element (Morita 2017 for the numbers; the text is this
-- project's own profile).
use Rattle.std.specs.Prelude.{◌≡◌, ℕ, ◌*◌, ◌≤◌, List, [], ◌∷◌, codes}
use Rattle.bn_circuits.specs.declared.place.Place.{Place}
use Rattle.bn_csv.specs.Lines.{lines_of}
use Rattle.bn_rsm.specs.Entry.{entries_by}
use Rattle.bn_rsm.specs.declared.rsm_move.RsmMove.{RsmMove}
use Rattle.bn_rlem.specs.Permutations.{factorial}
use Rattle.bn_rlem.specs.Elements.{IsElement, IsLineCount}
use Rattle.bn_reply.specs.Answering.{IsSettled}
use Rattle.bn_reply.specs.Lines.{line}
use Rattle.bn_reply.specs.declared.status.Status.{Status}
use Rattle.bn_reply.specs.declared.status.Status.TheVariants.{Done, Word}

-- There are (2k)! elements with k ports. A number that no element has is refused; otherwise the text is the table of
-- the element, a line for each pair of a state and a port, in rising order.
pub data ElementReplies (k n : ℕ) (status : Status) (text : List ℕ) (told : List Place) : Type 0 where
  unnumbered : factorial (2 * k) ≤ n → status ≡ Word → text ≡ line (codes "word: number" ∷ []) → told ≡ []
      → ElementReplies k n status text told
  numbered : (moves : List RsmMove) → IsElement k n moves → status ≡ Done → text ≡ lines_of (entries_by moves)
      → told ≡ [] → ElementReplies k n status text told

-- it has exactly one answer
abbrev pub ElementIsSettled : Type 0
ElementIsSettled = (k n : ℕ) → IsSettled (ElementReplies k n)
