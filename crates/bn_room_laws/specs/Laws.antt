-- The laws of this crate, a named field each. `Laws` is the contract of `room_laws`. They speak of what `drive` answers
-- in a window: the circuit is not too large, or its number of elements is the answer (`TellsDriven`).
use Rattle.std.specs.Prelude.{◌≡◌, ℕ, ◌≤◌, List}
use Rattle.bn_circuits.specs.declared.place.Place.{Place}
use Rattle.bn_machine.specs.Outcome.{Limits}
use Rattle.bn_machine.specs.declared.quint.Side.{Side}
use Rattle.bn_extents.specs.LeastWindow.{AreAtMost}
use Rattle.bn_quad.specs.Calls.{IsUniformMachine}
use Rattle.bn_quad.specs.Quadruples.{Configuration}
use Rattle.bn_qtable.specs.Reading.{ReadsQuadruples}
use Rattle.bn_qtable.specs.Rows.{QuadTable}
use Rattle.bn_qtable.specs.TapeWords.{TapeWords}
use Rattle.bn_bennett_laws.specs.Steps.{Leaving}
use Rattle.bn_network.specs.Starts.{words_on}
use Rattle.bn_rooms.specs.OneSided.{LeavesWithin}
use Rattle.bn_rooms.specs.LeastRoom.{IsLeastRoom}
use Rattle.bn_reply.specs.declared.status.Status.{Status}
use Rattle.bn_reply.specs.declared.status.Status.TheVariants.{Done}
use Rattle.bn_reply_machines.specs.NamedWords.{AreNamedBy}
use Rattle.bn_reply_builds.specs.BuildReply.{IsUncrowded}
use Rattle.bn_reply_builds.specs.DriveHeadline.{IsGiven, IsOwnRun, TellsDriven}
use Rattle.bn_reply_builds.specs.DriveReply.{DriveReplies}
use Rattle.bn_reply_rooms.specs.RoomReply.{RoomReplies, room_line}
use Rattle.bn_network.specs.declared.limits.TheConstants.{MOST_DRIVE_STEPS}

-- The bytes read as a table of quadruples whose machine passes both tests and is uniform, and no tape of which has more
-- symbols than a cell may tell apart; the words have the names of these symbols. Nothing is said of a window.
pub record IsRead (words : TapeWords) (bytes : List ℕ) (t : QuadTable) (one two three : List ℕ) : Type 0 where
  pub reads : ReadsQuadruples bytes t
  pub uniform : IsUniformMachine t.machine
  pub few : IsUncrowded t.machine
  pub named : AreNamedBy words t.names one two three

-- where `room` is Done, it prints the least room of the table's machine and the words
pub record PrintsLeastRoom (words : TapeWords) (bytes text : List ℕ) : Type 0 where
  pub table : QuadTable
  pub one : List ℕ
  pub two : List ℕ
  pub three : List ℕ
  pub read : IsRead words bytes table one two three
  pub limits : Limits
  pub least : IsLeastRoom table.machine one two three limits
  pub text_is : text ≡ room_line limits

abbrev pub RoomsAreLeast : Type 0
RoomsAreLeast =
    (words : TapeWords) (n : ℕ) (bytes text : List ℕ) (told : List Place) → RoomReplies words n bytes Done text told
    → PrintsLeastRoom words bytes text

-- in the least room l, and in every one at least as great on each side, the words have room, the machine's own run ends
-- as it does in l, and `drive` reports that end
abbrev pub DrivesEndInLeastRooms : Type 0
DrivesEndInLeastRooms =
    (words : TapeWords) (k l : Limits) (most : ℕ) (bytes : List ℕ) (status : Status) (text : List ℕ) (told : List Place)
    → most ≤ MOST_DRIVE_STEPS → DriveReplies words k most bytes status text told
    → (t : QuadTable) (one two three : List ℕ) → IsRead words bytes t one two three
    → (room : IsLeastRoom t.machine one two three l) → AreAtMost l k
    → IsGiven words bytes k t one two three
    × IsOwnRun t k one two three room.fits.steps room.fits.last room.fits.exit
    × TellsDriven most t k room.fits.steps room.fits.last room.fits.exit status text

-- the machine's own run ends where a head leaves its tape's window, and `drive` reports that end
pub record DrivesOut (most : ℕ) (t : QuadTable) (l : Limits) (one two three : List ℕ) (status : Status)
    (text : List ℕ) : Type 0 where
  pub steps : ℕ
  pub last : Configuration ℕ
  pub tape : ℕ
  pub side : Side
  pub own : IsOwnRun t l one two three steps last (Leaving tape side)
  pub tells : TellsDriven most t l steps last (Leaving tape side) status text

-- in a window with a number smaller than that of the least room, in which the words have room
abbrev pub DrivesLeaveSmallerRooms : Type 0
DrivesLeaveSmallerRooms =
    (words : TapeWords) (k l : Limits) (most : ℕ) (bytes : List ℕ) (status : Status) (text : List ℕ) (told : List Place)
    → most ≤ MOST_DRIVE_STEPS → DriveReplies words k most bytes status text told
    → (t : QuadTable) (one two three : List ℕ) → IsGiven words bytes k t one two three
    → IsLeastRoom t.machine one two three l → (AreAtMost l k → ⊥) → DrivesOut most t k one two three status text

-- in every window in which the words have room, if a head of tape 2 or 3 goes left of cell 0
abbrev pub DrivesLeaveWithoutRoom : Type 0
DrivesLeaveWithoutRoom =
    (words : TapeWords) (k : Limits) (most : ℕ) (bytes : List ℕ) (status : Status) (text : List ℕ) (told : List Place)
    → most ≤ MOST_DRIVE_STEPS → DriveReplies words k most bytes status text told
    → (t : QuadTable) (one two three : List ℕ) → IsGiven words bytes k t one two three
    → (n tape : ℕ) → LeavesWithin t.machine (words_on t.machine one two three) n tape
    → DrivesOut most t k one two three status text

-- ---- the laws

pub record Laws : Type 0 where
  -- Where `room` is Done, it prints the least room of the table's machine and the words.
  pub rooms_are_least : RoomsAreLeast
  -- In the least room, and in every one at least as great on each side, `drive` reports the end of the machine itself:
  -- it halts or is stuck.
  pub drives_end_in_least_rooms : DrivesEndInLeastRooms
  -- In a window with any number smaller than that of the least room, a word has no room, or `drive` reports that the
  -- signal leaves by an end of a tape.
  pub drives_leave_smaller_rooms : DrivesLeaveSmallerRooms
  -- If a head of tape 2 or 3 goes left of cell 0, the signal leaves by an end of a tape in every window.
  pub drives_leave_without_room : DrivesLeaveWithoutRoom
