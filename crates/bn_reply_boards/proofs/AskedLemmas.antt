-- What bytes, a word and limits are opened as: what is told of it is an answer, and a refusal is one whatever is told.
use Rattle.std.specs.Prelude.{◌≡◌, ℕ, ◌<◌, ◌≤◌, List, [], length, refl}
use Rattle.bn_circuits.specs.declared.place.Place.{Place}
use Rattle.bn_machine.specs.Outcome.{Limits}
use Rattle.bn_table.specs.Rows.{Named}
use Rattle.bn_table.proofs.MachineLemmas.{tables_machines}
use Rattle.bn_bennett.specs.Translation.{Translation}
use Rattle.bn_boards.specs.Flats.{Flat, IsAccepted}
use Rattle.bn_board.specs.Flattened.{Flattened}
use Rattle.bn_reply.specs.Lines.{long_line}
use Rattle.bn_reply.specs.TableReply.{JudgedReplies, StandardReplies, WordReplies, faulty, fit, foreign, read, spelled}
use Rattle.bn_reply.specs.TableReply.{unfit}
use Rattle.bn_reply.specs.declared.reply.Reply.{Reply}
use Rattle.bn_reply.specs.declared.status.Status.{Status}
use Rattle.bn_reply.specs.declared.status.Status.TheVariants as statuses
use Rattle.bn_reply_relations.specs.Windows.{BoardReplies, WindowReplies, board, large, long}
use Rattle.bn_reply_relations.proofs.WindowLemmas.{given_accepted}
use Rattle.bn_reply_boards.specs.Opened.{IsBoardAsked, IsLarge, IsMachineAsked}

-- ---- a machine and a word

module _ (tells : Named → List ℕ → Status → List ℕ → List Place → Type 0) (bytes word : List ℕ) where
  -- what is told of them is an answer
  pub machine_replies : (t : Named) (m : Translation) (symbols : List ℕ) → IsMachineAsked bytes word t m symbols
      → (s : Status) (text : List ℕ) (told : List Place)
      → tells t symbols s text told → StandardReplies (λ t. WordReplies (tells t) t word) bytes s text told
  machine_replies t m symbols asked s text told h = read t asked.reads.reads
      (fit asked.reads.standard (spelled symbols asked.spelled h))

  -- what is answered as another command answers it, where it is told of them as there
  module _ (other : Named → List ℕ → Status → List ℕ → List Place → Type 0) (s : Status) (text : List ℕ)
      (told : List Place)
      (gives : (t : Named) (symbols : List ℕ) → other t symbols s text told → tells t symbols s text told) where
    word_as : (t : Named) → WordReplies (other t) t word s text told → WordReplies (tells t) t word s text told
    word_as t (foreign p h is e n) = foreign p h is e n
    word_as t (spelled symbols is h) = spelled symbols is (gives t symbols h)

    judged_as : (t : Named) → JudgedReplies (WordReplies (other t) t word) t s text told
        → JudgedReplies (WordReplies (tells t) t word) t s text told
    judged_as t (unfit why e n) = unfit why e n
    judged_as t (fit standard h) = fit standard (word_as t h)

    pub machine_as : StandardReplies (λ t. WordReplies (other t) t word) bytes s text told
        → StandardReplies (λ t. WordReplies (tells t) t word) bytes s text told
    machine_as (faulty h e n) = faulty h e n
    machine_as (read t reads h) = read t reads (judged_as t h)

  -- a refusal is an answer, whatever is told of them
  pub machine_refused : (s : Status) (text : List ℕ) (told : List Place)
      → StandardReplies (λ t. WordReplies (λ symbols status text told. ⊥) t word) bytes s text told
      → StandardReplies (λ t. WordReplies (tells t) t word) bytes s text told
  machine_refused s text told = machine_as (λ t symbols status text told. ⊥) s text told (λ t symbols none. absurd none)

-- ---- a board

-- the answer that the word is too long, and that the board is too large
pub long_replies : (tells : Named → Flat → Status → List ℕ → List Place → Type 0) (bytes word : List ℕ) (l : Limits)
    (t : Named) (m : Translation) (symbols : List ℕ) (r : Reply)
    → IsMachineAsked bytes word t m symbols → l.right < length symbols → r.text.items ≡ long_line (length symbols)
    → r.status ≡ statuses.Size
    → WindowReplies tells word l bytes r.status r.text.items []
long_replies tells bytes word l t m symbols r asked far text status =
    machine_replies (λ t. BoardReplies (tells t) t.machine l) bytes word t m symbols asked r.status r.text.items []
    (long far text status refl)

pub large_replies : (tells : Named → Flat → Status → List ℕ → List Place → Type 0) (bytes word : List ℕ) (l : Limits)
    (t : Named) (m : Translation) (symbols : List ℕ) (r : Reply)
    → IsMachineAsked bytes word t m symbols → length symbols ≤ l.right → IsLarge t.machine l r
    → WindowReplies tells word l bytes r.status r.text.items []
large_replies tells bytes word l t m symbols r asked fits is =
    machine_replies (λ t. BoardReplies (tells t) t.machine l) bytes word t m symbols asked r.status r.text.items []
    (large fits is.count is.counts is.great is.text is.status refl)

module _ (tells : Named → Flat → Status → List ℕ → List Place → Type 0) (bytes word : List ℕ) (l : Limits) where
  board_refused : (t : Named) (symbols : List ℕ) (s : Status) (text : List ℕ) (told : List Place)
      → BoardReplies (λ f status text told. ⊥) t.machine l symbols s text told
      → BoardReplies (tells t) t.machine l symbols s text told
  board_refused t symbols s text told (long far is e n) = long far is e n
  board_refused t symbols s text told (large fits count counts great is e n) = large fits count counts great is e n
  board_refused t symbols s text told (board f comes none) = absurd none

  -- a refusal is an answer, whatever is told of boards
  pub input_refused : (s : Status) (text : List ℕ) (told : List Place)
      → WindowReplies (λ t f status text told. ⊥) word l bytes s text told
      → WindowReplies tells word l bytes s text told
  input_refused s text told =
      machine_as (λ t. BoardReplies (tells t) t.machine l) bytes word
      (λ t. BoardReplies (λ f status text told. ⊥) t.machine l) s text told
      (λ t symbols. board_refused t symbols s text told)

  -- what is told of the board is an answer
  pub board_replies : (t : Named) (m : Translation) (b : Flattened) → (asked : IsBoardAsked bytes word l t m b)
      → (s : Status) (text : List ℕ) (told : List Place)
      → tells t asked.flat s text told → WindowReplies tells word l bytes s text told
  board_replies t m b asked s text told h =
      read t asked.given.reads.reads (fit asked.given.reads.standard
      (spelled asked.symbols asked.given.spelled (board asked.flat asked.made.comes h)))

-- the board may be compiled
pub board_accepted : (bytes word : List ℕ) (l : Limits) (t : Named) (m : Translation) (b : Flattened)
    (asked : IsBoardAsked bytes word l t m b)
    → IsAccepted t.machine asked.symbols l asked.flat
board_accepted bytes word l t m b asked = given_accepted tables_machines bytes word l t asked.symbols asked.flat
    asked.given asked.made.comes
