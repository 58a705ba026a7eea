-- What the machine's own run of at most n steps shows of the least room for words on the tapes (this project's own
-- definition).
use Rattle.std.specs.Prelude.{ℕ, List}
use Rattle.bn_machine.specs.Outcome.{Limits}
use Rattle.bn_quad.specs.Quadruples.{Quadruples}
use Rattle.bn_network.specs.Starts.{words_on}
use Rattle.bn_rooms.specs.OneSided.{EndsWithin, LeavesWithin, RunsOn}
use Rattle.bn_rooms.specs.LeastRoom.{IsLeastRoom}

-- a least room; no room, since a head leaves this tape to the left; or nothing yet
pub data RoomOutcome : Type 0 where
  Room : Limits → RoomOutcome
  NoRoom : ℕ → RoomOutcome
  Running : RoomOutcome

-- The machine halts or is stuck within n steps, and the limits are its least room; or one of the n steps moves a head
-- left of cell 0 on tape 2 or 3, the least of which is this one; or the machine still runs after n steps.
abbrev pub HasRoomOutcome : Quadruples → List ℕ → List ℕ → List ℕ → ℕ → RoomOutcome → Type 0
HasRoomOutcome p one two three n (Room l) = EndsWithin p (words_on p one two three) n × IsLeastRoom p one two three l
HasRoomOutcome p one two three n (NoRoom tape) = LeavesWithin p (words_on p one two three) n tape
HasRoomOutcome p one two three n Running = RunsOn p (words_on p one two three) n
