-- The run of a machine of quadruples on three tapes in windows, with the reach of its heads.
use Rattle.std.specs.Prelude.{◌≡◌, ◌≢◌, ℕ, ◌+◌, ◌<◌, ◌≤◌, ℤ, pos, ◌-ℤ◌, ◌≤ℤ◌, List}
use Rattle.bn_machine.specs.Outcome.{Limits}
use Rattle.bn_machine.specs.Tape.{Tape, cell, word_tape}
use Rattle.bn_machine.specs.Window.{Windowed}
use Rattle.bn_quad.specs.Quadruples.{Configuration, IsQuadrupleStuck, Quadruples, QuadruplesRunTo, everywhere}
use Rattle.bn_quad.specs.Quadruples.{final_state_of}
use Rattle.bn_quad.specs.declared.tapes.QuadTurn.{QuadTurn}
use Rattle.bn_quad.specs.declared.tapes.QuadTurn.TheVariants as turns
use Rattle.bn_quad.specs.declared.tapes.Tapes.{Tapes}
use Rattle.bn_rooms.specs.OneSided.{IsFirstLeft}
use Rattle.bn_rooms.specs.Reach.{HasReach}
use Rattle.bn_rooms.specs.RoomOutcome.{NoRoom, Room, RoomOutcome, Running}
use Rattle.bn_reply_rooms.specs.declared.reach.Reach.{Reach}
use Rattle.bn_reply_rooms.specs.declared.reach.Room.{Room as Window}
use Rattle.bn_reply_rooms.specs.declared.room_run.Found.{Found}
use Rattle.bn_reply_rooms.specs.declared.room_run.Found.TheVariants as found
use Rattle.bn_reply_rooms.specs.declared.room_run.Measured.{Measured}

-- the limits of a window, and of a reach
abbrev pub limits_of : Window → Limits
limits_of w = record { left = w.left1; right = w.right1; steps = w.right2; output = w.right3 }

abbrev pub reach_of : Reach → Limits
reach_of r = record { left = r.left1; right = r.right1; steps = r.right2; output = r.right3 }

-- what is found
abbrev pub outcome_of : Found → RoomOutcome
outcome_of (found.Room w) = Room (limits_of w)
outcome_of (found.NoRoom tape) = NoRoom tape
outcome_of found.Running = Running

-- The window of a tape that i steps, of at most n, have led to represents the infinite tape t as far as it reaches,
-- which is further than n steps to the right; the head is within i cells of 0.
pub record IsTapeStage (n i : ℕ) (w : Windowed) (t : Tape) : Type 0 where
  pub wide : n + 1 ≤ w.right
  pub head : w.tape.head ≡ t.head
  pub cells : (q : ℤ) → q ≤ℤ pos w.right → cell w.tape q ≡ cell t q
  pub near_left : (pos 0 -ℤ pos i) ≤ℤ t.head
  pub near_right : t.head ≤ℤ pos i

-- the same for the tape of a word
abbrev pub IsRoomTape : ℕ → ℕ → List ℕ → Windowed → Type 0
IsRoomTape n i word w = IsTapeStage n i w (word_tape word)

-- The state and the tapes that i steps, of at most n, have led to represent the configuration c; the second and the
-- third tape begin at position 0, and the first reaches further than n steps to the left.
pub record IsRoomStage (n i : ℕ) (c : Configuration ℕ) (state : ℕ) (w : Tapes) : Type 0 where
  pub state_is : state ≡ c.state
  pub one : IsTapeStage n i w.one c.one
  pub two : IsTapeStage n i w.two c.two
  pub three : IsTapeStage n i w.three c.three
  pub wide : n + 1 ≤ w.one.left
  pub two_sided : w.two.left ≡ 0
  pub three_sided : w.three.left ≡ 0

-- the machine is in the final state, is stuck, would move a head of tape 2 or 3 left of cell 0, or goes on
abbrev pub IsRoomTurn : Quadruples → QuadTurn → Configuration ℕ → Type 0
IsRoomTurn p turns.Final c = c.state ≡ final_state_of p.rules
IsRoomTurn p turns.Stuck c = IsQuadrupleStuck p c
IsRoomTurn p (turns.Left tape side) c = (d : Configuration ℕ) × QuadruplesRunTo everywhere p c d × IsFirstLeft d tape
IsRoomTurn p (turns.Moved quad) c = (d : Configuration ℕ) × QuadruplesRunTo everywhere p c d

-- From c, this many steps, at most n, in which the heads have this reach, lead to where the machine returns this turn.
-- If it makes fewer steps than n, the turn is no further step.
pub record IsMeasured (p : Quadruples) (n : ℕ) (c : Configuration ℕ) (m : Measured) : Type 0 where
  pub last : Configuration ℕ
  pub reach : HasReach p m.steps c last (reach_of m.reach)
  pub in_time : m.steps ≤ n
  pub turned : IsRoomTurn p m.turn last
  pub early : m.steps < n → (quad : ℕ) → m.turn ≢ turns.Moved quad
