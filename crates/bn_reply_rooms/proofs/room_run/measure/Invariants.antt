-- What the steps so far have led to.
use Rattle.bn_quad.specs.Quadruples.{Configuration}
use Rattle.std.specs.Prelude.{ℕ}
use Rattle.bn_reply_rooms.specs.RoomRun.{IsRoomStage}
use Rattle.bn_reply_rooms.proofs.MeasureLemmas.{IsMeasuredSoFar}
use Rattle.bn_reply_rooms.proofs.room_run.measure.Given as goal

abbrev pub invariant-loop-steps : goal.invariant-loop-steps
invariant-loop-steps l = (c : Configuration ℕ) → IsRoomStage l.most_steps 0 c l.initial.state l.initial.tapes
    → IsMeasuredSoFar l.machine l.most_steps l.steps c l.state l.tapes l.reach
