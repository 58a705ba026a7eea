-- The answer of the command `room`: the least window of a table's machine of quadruples and words on its tapes, from
-- the machine's own run (Bennett 1973 for the quadruples; the window and the text are this project's own profile).
use Rattle.std.specs.Prelude.{◌≡◌, ℕ, List, [], ◌∷◌, codes, decimal}
use Rattle.bn_circuits.specs.declared.place.Place.{Place}
use Rattle.bn_machine.specs.Outcome.{Limits}
use Rattle.bn_quad.specs.Quadruples.{Quadruples}
use Rattle.bn_qtable.specs.TapeWords.{TapeWords}
use Rattle.bn_rooms.specs.RoomOutcome.{HasRoomOutcome, NoRoom, Room, RoomOutcome, Running}
use Rattle.bn_reply.specs.Answering.{IsSettled}
use Rattle.bn_reply.specs.Lines.{line, running_line}
use Rattle.bn_reply.specs.declared.status.Status.{Status}
use Rattle.bn_reply.specs.declared.status.Status.TheVariants as statuses
use Rattle.bn_reply_builds.specs.BuildReply.{IsCrowded, IsUncrowded, crowded_line}
use Rattle.bn_reply_machines.specs.QuadReply.{QuadReplies}
use Rattle.bn_reply_machines.specs.UniformReply.{UniformReplies}
use Rattle.bn_reply_machines.specs.WordsReply.{WordsReplies}

-- ---- the symbols of tapes

-- The answer to a machine, where `tells` is the answer if no tape has too many symbols: the first tape that has, or
-- that.
pub data UncrowdedReplies (tells : Status → List ℕ → List Place → Type 0) (m : Quadruples) (status : Status)
    (text : List ℕ) (told : List Place) : Type 0 where
  many : (t z : ℕ) → IsCrowded m t z → text ≡ crowded_line t z → status ≡ statuses.Size → told ≡ []
      → UncrowdedReplies tells m status text told
  few : IsUncrowded m → tells status text told → UncrowdedReplies tells m status text told

-- ---- what the run shows

-- the line of a window: the cells left and right of position 0 on tape 1, and right of it on tape 2 and on tape 3
abbrev pub room_line : Limits → List ℕ
room_line l =
    line (codes "room " ∷ decimal l.left ∷ codes " " ∷ decimal l.right ∷ codes " " ∷ decimal l.steps ∷ codes " "
    ∷ decimal l.output ∷ [])

-- the line that says that no window has room, since the head of this tape goes left of position 0
abbrev pub no_room_line : ℕ → List ℕ
no_room_line tape = line (codes "none " ∷ decimal tape ∷ [])

-- the line of what a run of at most n steps shows, and its status
abbrev pub outcome_line : ℕ → RoomOutcome → List ℕ
outcome_line n (Room l) = room_line l
outcome_line n (NoRoom tape) = no_room_line tape
outcome_line n Running = running_line n

abbrev pub outcome_status : RoomOutcome → Status
outcome_status (Room l) = statuses.Done
outcome_status (NoRoom tape) = statuses.Window
outcome_status Running = statuses.Inside

-- The text and the status are of what the machine's own run of at most n steps from these words shows.
pub record TellsRoom (m : Quadruples) (n : ℕ) (one two three : List ℕ) (status : Status) (text : List ℕ)
    (told : List Place) : Type 0 where
  pub outcome : RoomOutcome
  pub shown : HasRoomOutcome m one two three n outcome
  pub text_is : text ≡ outcome_line n outcome
  pub status_is : status ≡ outcome_status outcome
  pub silent : told ≡ []

-- ---- the answer

-- The answer of `room` to words on the tapes, a greatest number of steps n, and these bytes. Refusals are those of
-- `build` that no window changes: an error of the bytes comes first, then one of the machine, then one of the words'
-- names, then a tape with too many symbols.
abbrev pub RoomReplies : TapeWords → ℕ → List ℕ → Status → List ℕ → List Place → Type 0
RoomReplies words n = QuadReplies (UniformReplies (λ t. WordsReplies words (λ one two three.
    UncrowdedReplies (TellsRoom t.machine n one two three) t.machine) t.names))

-- it has exactly one answer to all words, numbers of steps and bytes
abbrev pub RoomIsSettled : Type 0
RoomIsSettled = (words : TapeWords) (n : ℕ) (bytes : List ℕ) → IsSettled (RoomReplies words n bytes)
