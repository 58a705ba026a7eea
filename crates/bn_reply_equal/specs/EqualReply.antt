-- The answer of the command `equal Q R` to a table of a sequential machine, a line `%` and a second table: whether
-- state Q of the first machine and state R of the second give the same outputs for every sequence of input lines
-- (Moore 1956; the texts are this project's own profile). States and lines are counted from 1 in arguments and texts.
-- Faults of the texts are reported first, then those of the machines, each time the first table's before the second's,
-- and then those of the states.
use Rattle.std.specs.Prelude.{◌≡◌, ◌+◌, ◌<◌, ◌≤◌, ◌++◌, ℕ, List, [], ◌∷◌, Option, Some, None, codes, decimal}
use Rattle.bn_base.specs.Cuts.{IsCut, IsUncut}
use Rattle.bn_circuits.specs.declared.place.Place.{Place}
use Rattle.bn_csv.specs.Entries.{entries_of}
use Rattle.bn_equal.specs.Answers.{AreEqual}
use Rattle.bn_equal.specs.Differences.{IsLeastDifference, last_output}
use Rattle.bn_rsm.specs.Entry.{AreReadAs}
use Rattle.bn_rsm.specs.Machines.{Machine, machine_table}
use Rattle.bn_rsm.specs.Reading.{ReadsMoves}
use Rattle.bn_rsm.specs.declared.rsm_move.RsmMove.{RsmMove}
use Rattle.bn_reply.specs.Answering.{IsSettled}
use Rattle.bn_reply.specs.Lines.{line}
use Rattle.bn_reply.specs.declared.status.Status.{Status}
use Rattle.bn_reply.specs.declared.status.Status.TheVariants as statuses
use Rattle.bn_reply_circuits.specs.RealiseReply.{TellsClash, TellsRsmFault}
use Rattle.bn_reply_equal.specs.Second.{no_second_line, with_second}

-- ---- the texts of a comparison

-- each line of a sequence after a space, and the end of the line
abbrev pub sequence_text : List ℕ → List ℕ
sequence_text [] = 10 ∷ []
sequence_text (i ∷ w) = codes " " ++ (decimal (i + 1) ++ sequence_text w)

-- an output line, or `-` if there is no move
abbrev pub output_text : Option ℕ → List ℕ
output_text None = codes "-"
output_text (Some o) = decimal (o + 1)

-- the lines of a difference: the sequence, and the outputs of the two states for its last line
abbrev pub difference_text : List ℕ → Option ℕ → Option ℕ → List ℕ
difference_text w first second =
    codes "differ" ++ (sequence_text w ++ (line (codes "first " ∷ output_text first ∷ [])
    ++ line (codes "second " ∷ output_text second ∷ [])))

-- The answer to a state of each machine, counted from 0: they are equal, or this is the least sequence that
-- distinguishes them.
pub data ComparisonReplies (m : Machine) (q : ℕ) (n : Machine) (r : ℕ) (text : List ℕ) : Type 0 where
  equal : AreEqual (machine_table m) q (machine_table n) r → text ≡ line (codes "equal" ∷ [])
      → ComparisonReplies m q n r text
  differ : (w : List ℕ) → IsLeastDifference (machine_table m) q (machine_table n) r w
      → text ≡ difference_text w (last_output (machine_table m) q w) (last_output (machine_table n) r w)
      → ComparisonReplies m q n r text

-- The answer to two machines: the first has no such state; the second has none; or the comparison of the two.
pub data StatesReplies (m : Machine) (q : ℕ) (n : Machine) (r : ℕ) (status : Status) (text : List ℕ)
    (told : List Place) : Type 0 where
  no_state : m.states < q → text ≡ line (codes "word: state" ∷ []) → status ≡ statuses.Word → told ≡ []
      → StatesReplies m q n r status text told
  no_second : q ≤ m.states → n.states < r → text ≡ line (codes "word: second state" ∷ []) → status ≡ statuses.Word
      → told ≡ [] → StatesReplies m q n r status text told
  compared : (state other : ℕ) → q ≡ state + 1 → r ≡ other + 1 → state < m.states → other < n.states
      → ComparisonReplies m state n other text → status ≡ statuses.Done → told ≡ []
      → StatesReplies m q n r status text told

-- The answer to two texts: the fault of the first; that of the second; two moves of the first that overlap in domain
-- or in range; two of the second; or the answer to the two machines.
pub data TablesReplies (q r : ℕ) (first second : List ℕ) (status : Status) (text : List ℕ) (told : List Place) :
    Type 0 where
  faulty : TellsRsmFault first text → status ≡ statuses.Text → told ≡ []
      → TablesReplies q r first second status text told
  second_faulty : (ms : List RsmMove) → AreReadAs (entries_of first) ms → (refusal : List ℕ)
      → TellsRsmFault second refusal → text ≡ with_second refusal → status ≡ statuses.Text → told ≡ []
      → TablesReplies q r first second status text told
  clashing : TellsClash first text → (ns : List RsmMove) → AreReadAs (entries_of second) ns
      → status ≡ statuses.Machine → told ≡ [] → TablesReplies q r first second status text told
  second_clashing : (m : Machine) → ReadsMoves first m → (refusal : List ℕ) → TellsClash second refusal
      → text ≡ with_second refusal → status ≡ statuses.Machine → told ≡ []
      → TablesReplies q r first second status text told
  reading : (m n : Machine) → ReadsMoves first m → ReadsMoves second n → StatesReplies m q n r status text told
      → TablesReplies q r first second status text told

-- The answer of `equal` to these states and bytes: there is no line `%`; or the answer to the two texts.
pub data EqualReplies (q r : ℕ) (bytes : List ℕ) (status : Status) (text : List ℕ) (told : List Place) : Type 0 where
  uncut : IsUncut bytes → text ≡ no_second_line → status ≡ statuses.Text → told ≡ []
      → EqualReplies q r bytes status text told
  cut : (first second : List ℕ) → IsCut bytes first second → TablesReplies q r first second status text told
      → EqualReplies q r bytes status text told

-- for all states, counted from 1, and all bytes, it has exactly one answer
abbrev pub EqualIsSettled : Type 0
EqualIsSettled = (q r : ℕ) (bytes : List ℕ) → 1 ≤ q → 1 ≤ r → IsSettled (EqualReplies q r bytes)
