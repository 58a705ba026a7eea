-- The answers of the commands `erase` and `erase =W n`: the machine of two tables that leaves only its output (Bennett
-- 1973), and its run from a word (the reading of the words and the texts are this project's own profile).
use Rattle.std.specs.Prelude.{◌≡◌, ℕ, ◌<◌, ◌≤◌, List, [], ◌∷◌, ◌++◌, length, map, codes, decimal}
use Rattle.bn_circuits.specs.declared.place.Place.{Place}
use Rattle.bn_csv.specs.Lines.{lines_of}
use Rattle.bn_quad.specs.Quadruples.{Rule}
use Rattle.bn_qtable.specs.Entry.{quadruple_entry}
use Rattle.bn_qtable.specs.Rows.{said_deed}
use Rattle.bn_table.specs.Rows.{Named, named_program}
use Rattle.bn_erase_laws.specs.Erasing.{erasing}
use Rattle.bn_erase_laws.specs.Outcome.{HasErasingOutcome, ErasingOutcome, Halted, Stuck, Running}
use Rattle.bn_erase_laws.specs.declared.name.ErasingName.{ErasingName}
use Rattle.bn_erase.specs.Joint.{Joint, joined}
use Rattle.bn_erase.specs.declared.erasing.TheConstants.{MOST_QUADRUPLES}
use Rattle.bn_erase.specs.Printed.{erasing_text, history_names, letter_names}
use Rattle.bn_reply.specs.Answering.{IsDone, IsSettled}
use Rattle.bn_reply.specs.Lines.{line}
use Rattle.bn_reply.specs.TableReply.{WordReplies}
use Rattle.bn_reply.specs.Words.{letters_of}
use Rattle.bn_reply.specs.declared.status.Status.{Status}
use Rattle.bn_reply.specs.declared.status.Status.TheVariants as statuses
use Rattle.bn_reply_erase.specs.Pairs.{PairReplies}
use Rattle.bn_base.specs.declared.limits.TheConstants.{MOST_COUNT}
use Rattle.bn_reply.specs.Lines.{long_line, running_line}

-- ---- the machine

-- the quadruples of the erasing machine of two machines over one alphabet
abbrev pub erasing_of : Joint → List (Rule ErasingName)
erasing_of j = erasing j.first j.second

-- the entry of a quadruple: the names of its states, the letters on tapes 1 and 3, and the history's symbols on tape 2
abbrev pub erasing_entry : Joint → Rule ErasingName → List (List ℕ)
erasing_entry j r = quadruple_entry (record {
  state = erasing_text r.from;
  one = said_deed (letter_names j) r.one;
  two = said_deed (history_names j) r.two;
  three = said_deed (letter_names j) r.three;
  next = erasing_text r.to;
})

-- the lines of the erasing machine
abbrev pub erase_text : Joint → List ℕ
erase_text j = lines_of (map (erasing_entry j) (erasing_of j))

-- the line of a machine with too many quadruples, and that of a word with too many letters
abbrev pub many_line : ℕ → List ℕ
many_line count = line (codes "size: quadruples " ∷ decimal count ∷ [])

-- The answer to two machines, where `tells` is the answer if the erasing machine has at most 20,000 quadruples: that
-- it has more, or else that answer.
pub data CountedReplies (tells : Status → List ℕ → List Place → Type 0) (j : Joint) (status : Status) (text : List ℕ)
    (told : List Place) : Type 0 where
  many : MOST_QUADRUPLES < length (erasing_of j) → text ≡ many_line (length (erasing_of j)) → status ≡ statuses.Size
      → told ≡ [] → CountedReplies tells j status text told
  few : length (erasing_of j) ≤ MOST_QUADRUPLES → tells status text told → CountedReplies tells j status text told

-- the answer of `erase` to these bytes: the erasing machine of the two tables' machines
abbrev pub EraseReplies : List ℕ → Status → List ℕ → List Place → Type 0
EraseReplies = PairReplies (λ t u. CountedReplies (IsDone (erase_text (joined t u))) (joined t u))

-- ---- its run

-- a table with the joint letters, so that a word of them is a word of its letters
abbrev pub lettered : Joint → Named
lettered j = named_program j.first [] j.letters

-- the lines of a run that halts after i steps with these words on the work tape and the output tape; of one that is
-- stuck after i steps in this state; and of one that has made all n steps
abbrev pub erased_lines : Joint → ℕ → List ℕ → List ℕ → List ℕ
erased_lines j i work output =
    line (codes "halted " ∷ decimal i ∷ []) ++ line (codes "work =" ∷ letters_of (lettered j) work ∷ [])
    ++ line (codes "output =" ∷ letters_of (lettered j) output ∷ [])

abbrev pub erasing_stuck_line : ℕ → ErasingName → List ℕ
erasing_stuck_line i name = line (codes "stuck " ∷ erasing_text name ∷ codes " " ∷ decimal i ∷ [])

-- the status and the text of a run with this result after i steps
abbrev pub erasing_status : ErasingOutcome → Status
erasing_status (Halted work output) = statuses.Done
erasing_status (Stuck name) = statuses.Stuck
erasing_status Running = statuses.Inside

abbrev pub outcome_text : Joint → ℕ → ErasingOutcome → List ℕ
outcome_text j i (Halted work output) = erased_lines j i work output
outcome_text j i (Stuck name) = erasing_stuck_line i name
outcome_text j i Running = running_line i

-- The text reports the result of the erasing machine's run from these symbols, with at most n steps.
pub record TellsErasing (j : Joint) (n : ℕ) (symbols : List ℕ) (status : Status) (text : List ℕ)
    (told : List Place) : Type 0 where
  pub steps : ℕ
  pub outcome : ErasingOutcome
  pub comes_out : HasErasingOutcome j.first j.second symbols n steps outcome
  pub status_is : status ≡ erasing_status outcome
  pub text_is : text ≡ outcome_text j steps outcome
  pub silent : told ≡ []

-- The answer to the symbols of a word: that they are too many, or else the answer to the machines.
pub data LongReplies (j : Joint) (n : ℕ) (symbols : List ℕ) (status : Status) (text : List ℕ)
    (told : List Place) : Type 0 where
  long : MOST_COUNT < length symbols → text ≡ long_line (length symbols) → status ≡ statuses.Size → told ≡ []
      → LongReplies j n symbols status text told
  short : length symbols ≤ MOST_COUNT → CountedReplies (TellsErasing j n symbols) j status text told
      → LongReplies j n symbols status text told

-- the answer of `erase =W n` to these bytes: the run of the erasing machine from the word, with at most n steps
abbrev pub EraseRunReplies : List ℕ → ℕ → List ℕ → Status → List ℕ → List Place → Type 0
EraseRunReplies word n = PairReplies (λ t u. WordReplies (LongReplies (joined t u) n) (lettered (joined t u)) word)

-- ---- each has one answer to all bytes

abbrev pub EraseIsSettled : Type 0
EraseIsSettled = (bytes : List ℕ) → IsSettled (EraseReplies bytes)

abbrev pub EraseRunIsSettled : Type 0
EraseRunIsSettled = (word : List ℕ) (n : ℕ) (bytes : List ℕ) → IsSettled (EraseRunReplies word n bytes)
