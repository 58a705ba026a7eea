-- The laws of this crate, a named field each. `Laws` is the contract of `rooms_laws`.
use Rattle.std.specs.Prelude.{◌≡◌, ℕ, ◌<◌, ◌⊎◌, List, length}
use Rattle.bn_lists.specs.Runs.{Reaches}
use Rattle.bn_machine.specs.Outcome.{Limits}
use Rattle.bn_machine.specs.declared.quint.Side.{Side}
use Rattle.bn_extents.specs.LeastWindow.{AreAtMost}
use Rattle.bn_quad.specs.Overlap.{IsDeterministic}
use Rattle.bn_quad.specs.Quadruples.{Configuration, Quadruples, QuadruplesRunTo, final_state_of}
use Rattle.bn_bennett_laws.specs.Stages.{rooms_of}
use Rattle.bn_bennett_laws.specs.Steps.{EndsAt, Leaving}
use Rattle.bn_network.specs.Starts.{words_on}
use Rattle.bn_rooms.specs.OneSided.{EndsWithin, LeavesWithin}
use Rattle.bn_rooms.specs.LeastRoom.{FitsRun, IsLeastRoom}
use Rattle.bn_rooms.specs.RoomOutcome.{HasRoomOutcome, RoomOutcome}

-- a machine that halts or is stuck before a head of tape 2 or 3 goes left of cell 0 has a least room
abbrev pub LeastRoomExists : Type 0
LeastRoomExists =
    (p : Quadruples) (one two three : List ℕ) (n : ℕ) → EndsWithin p (words_on p one two three) n
    → (l : Limits) × IsLeastRoom p one two three l

-- it has at most one for three words
abbrev pub LeastRoomIsOne : Type 0
LeastRoomIsOne =
    (p : Quadruples) (one two three : List ℕ) (k l : Limits) → IsLeastRoom p one two three k
    → IsLeastRoom p one two three l → k ≡ l

-- limits that are at least as great as some that fit fit too: the run makes the same steps and ends in the same way
abbrev pub LargerRoomsEndAlike : Type 0
LargerRoomsEndAlike =
    (p : Quadruples) (one two three : List ℕ) (k l : Limits) → (fit : FitsRun p one two three k) → AreAtMost k l
    → (also : FitsRun p one two three l) × (also.steps ≡ fit.steps) × (also.last ≡ fit.last) × (also.exit ≡ fit.exit)

-- the run within the limits ends where a head leaves its tape's window
pub record LeavesRoom (p : Quadruples) (one two three : List ℕ) (l : Limits) : Type 0 where
  pub steps : ℕ
  pub last : Configuration ℕ
  pub tape : ℕ
  pub side : Side
  pub run : Reaches (QuadruplesRunTo (rooms_of l) p) steps (words_on p one two three) last
  pub ends : EndsAt (rooms_of l) p.rules (final_state_of p.rules) last (Leaving tape side)

-- a word has no room on its tape, or the run leaves
abbrev pub IsTooSmall : Quadruples → List ℕ → List ℕ → List ℕ → Limits → Type 0
IsTooSmall p one two three l = ((l.right < length one) ⊎ ((l.steps < length two) ⊎ (l.output < length three)))
    ⊎ LeavesRoom p one two three l

-- a room with any number smaller than that of the least room is too small
abbrev pub SmallerRoomsAreTooSmall : Type 0
SmallerRoomsAreTooSmall =
    (p : Quadruples) (one two three : List ℕ) (k l : Limits) → IsLeastRoom p one two three l → (AreAtMost l k → ⊥)
    → IsTooSmall p one two three k

-- if a head of tape 2 or 3 goes left of cell 0, no limits fit
abbrev pub LeftOfStartHasNoRoom : Type 0
LeftOfStartHasNoRoom =
    (p : Quadruples) (one two three : List ℕ) (n tape : ℕ) → LeavesWithin p (words_on p one two three) n tape
    → (l : Limits) → FitsRun p one two three l → ⊥

-- what a run of at most n steps shows exists, for a deterministic machine, and is one
abbrev pub RoomOutcomeExists : Type 0
RoomOutcomeExists =
    (p : Quadruples) (one two three : List ℕ) (n : ℕ) → IsDeterministic p.rules
    → (o : RoomOutcome) × HasRoomOutcome p one two three n o

abbrev pub RoomOutcomeIsOne : Type 0
RoomOutcomeIsOne =
    (p : Quadruples) (one two three : List ℕ) (n : ℕ) (a b : RoomOutcome) → HasRoomOutcome p one two three n a
    → HasRoomOutcome p one two three n b → a ≡ b

-- ---- the laws

pub record Laws : Type 0 where
  -- A machine that halts or is stuck before a head of tape 2 or 3 goes left of cell 0 has a least room.
  pub least_room_exists : LeastRoomExists
  -- A machine has at most one least room for three words.
  pub least_room_is_one : LeastRoomIsOne
  -- In every room at least as great on each side as one that fits, the run ends in the same way.
  pub larger_rooms_end_alike : LargerRoomsEndAlike
  -- With any number smaller than that of the least room, a word has no room or the run leaves by an end of a tape.
  pub smaller_rooms_are_too_small : SmallerRoomsAreTooSmall
  -- If a head of tape 2 or 3 goes left of cell 0, there is no room in which the run ends as the machine itself does.
  pub left_of_start_has_no_room : LeftOfStartHasNoRoom
  -- A run of at most n steps of a deterministic machine shows a least room, that there is none, or that it still runs.
  pub room_outcome_exists : RoomOutcomeExists
  -- It shows only one of these.
  pub room_outcome_is_one : RoomOutcomeIsOne
