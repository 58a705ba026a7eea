-- The run of a machine of quadruples on tapes in windows with its reach, step by step, and what it shows.
use Rattle.std.proofs.Common.{◌≡◌, ◌≢◌, ℕ, ◌+◌, ◌<◌, ◌≤◌, max, inl, inr, List, sym, ◌∙◌, subst, arith}
use Rattle.std.proofs.lemmas.Bool.{cases_lt}
use Rattle.bn_lists.specs.Runs.{Reaches}
use Rattle.bn_machine.specs.Outcome.{Limits}
use Rattle.bn_machine.specs.declared.quint.Side.{Side}
use Rattle.bn_extents.specs.Extents.{cells_left, cells_right}
use Rattle.bn_quad.specs.Calls.{IsQuadTurn, configuration}
use Rattle.bn_quad.specs.Quadruples.{Configuration, Quadruples, QuadruplesRunTo, everywhere}
use Rattle.bn_quad.specs.declared.tapes.QuadTurn.{QuadTurn}
use Rattle.bn_quad.specs.declared.tapes.QuadTurn.TheVariants as turns
use Rattle.bn_quad.specs.declared.tapes.Tapes.{Tapes}
use Rattle.bn_network.specs.Starts.{words_on}
use Rattle.bn_rooms.specs.OneSided.{HasEnded, OneSidedStep}
use Rattle.bn_rooms.specs.Reach.{HasReach, no_reach, reach_to, with_words}
use Rattle.bn_rooms.specs.RoomOutcome.{HasRoomOutcome, NoRoom, Room, Running}
use Rattle.bn_rooms.specs.LeastRoom.{IsLeastRoom}
use Rattle.bn_rooms.proofs.ReachLemmas.{reach_more, reach_start, run_one_sided}
use Rattle.bn_rooms.proofs.LeastLemmas.{least_room}
use Rattle.bn_reply_rooms.specs.RoomRun.{IsMeasured, IsRoomStage, IsRoomTurn, reach_of}
use Rattle.bn_reply_rooms.specs.declared.reach.Reach.{Reach}
use Rattle.bn_reply_rooms.specs.declared.room_run.Measured.{Measured}
use Rattle.bn_reply_rooms.proofs.StageLemmas.{stage_moved, stage_turn}

-- what the steps so far have led to
pub record IsMeasuredSoFar (p : Quadruples) (n i : ℕ) (c : Configuration ℕ) (state : ℕ) (w : Tapes) (r : Reach) :
    Type 0 where
  pub last : Configuration ℕ
  pub reach : HasReach p i c last (reach_of r)
  pub stage : IsRoomStage n i last state w

pub measured_start : (p : Quadruples) (n : ℕ) (c : Configuration ℕ) (state : ℕ) (w : Tapes) (r : Reach)
    → reach_of r ≡ no_reach → IsRoomStage n 0 c state w → IsMeasuredSoFar p n 0 c state w r
measured_start p n c state w r is stage = record {
  last = c;
  reach = subst (HasReach p 0 c c) (sym is) (reach_start p c);
  stage = stage;
}

pub measured_more : (p : Quadruples) (n i : ℕ) (c : Configuration ℕ) (state : ℕ) (w : Tapes) (r : Reach)
    (quad next : ℕ) (v : Tapes) (wider : Reach) → i ≤ n → IsMeasuredSoFar p n i c state w r
    → IsQuadTurn p (turns.Moved quad) state w next v
    → ((s : ℕ) → reach_of wider ≡ reach_to (reach_of r) (configuration s v))
    → IsMeasuredSoFar p n (i + 1) c next v wider
measured_more p n i c state w r quad next v wider early h turn is =
    let m = stage_moved p n i early h.last state w h.stage quad next v turn.0 turn.1 in
    let one : v.one.tape.head ≡ m.0.one.head = m.2.one.head in
    let two : v.two.tape.head ≡ m.0.two.head = m.2.two.head in
    let three : v.three.tape.head ≡ m.0.three.head = m.2.three.head in
    let heads : reach_to (reach_of r) (configuration next v) ≡ reach_to (reach_of r) m.0 = λ k. record {
      left = max r.left1 (cells_left (one k));
      right = max r.right1 (cells_right (one k));
      steps = max r.right2 (cells_right (two k));
      output = max r.right3 (cells_right (three k));
    } in
    record {
      last = m.0;
      reach = subst (HasReach p (i + 1) c m.0) (sym (is next ∙ heads))
          (reach_more p i c h.last m.0 (reach_of r) h.reach m.1);
      stage = m.2;
    }

pub measured_end : (p : Quadruples) (n i : ℕ) (c : Configuration ℕ) (state : ℕ) (w : Tapes) (r : Reach)
    (turn : QuadTurn) (next : ℕ) (v : Tapes) → i ≤ n → IsMeasuredSoFar p n i c state w r
    → IsQuadTurn p turn state w next v → (i < n → (quad : ℕ) → turn ≢ turns.Moved quad)
    → IsMeasured p n c (record { steps = i; reach = r; turn = turn })
measured_end p n i c state w r turn next v early h turned other = record {
  last = h.last;
  reach = h.reach;
  in_time = early;
  turned = stage_turn p n i early h.last state w h.stage turn next v turned;
  early = other;
}

-- ---- what it shows

module _ (p : Quadruples) (one two three : List ℕ) (n : ℕ) (m : Measured)
    (h : IsMeasured p n (words_on p one two three) m) where
  room_shown : HasEnded p h.last → (l : Limits) → l ≡ with_words (reach_of m.reach) one two three
      → HasRoomOutcome p one two three n (Room l)
  room_shown ended l is = (
    record {
      steps = m.steps;
      last = h.last;
      in_time = h.in_time;
      run = run_one_sided (reach_of m.reach) p m.steps (words_on p one two three) h.last h.reach.run;
      ended = ended;
    },
    subst (IsLeastRoom p one two three) (sym is)
        (least_room p one two three m.steps h.last (reach_of m.reach) h.reach ended),
  )

  pub final_shown : m.turn ≡ turns.Final → (l : Limits) → l ≡ with_words (reach_of m.reach) one two three
      → HasRoomOutcome p one two three n (Room l)
  final_shown is = room_shown (inl (subst (λ (t : QuadTurn). IsRoomTurn p t h.last) is h.turned))

  pub stuck_shown : m.turn ≡ turns.Stuck → (l : Limits) → l ≡ with_words (reach_of m.reach) one two three
      → HasRoomOutcome p one two three n (Room l)
  stuck_shown is = room_shown (inr (subst (λ (t : QuadTurn). IsRoomTurn p t h.last) is h.turned))

  pub left_shown : (tape : ℕ) (side : Side) → m.turn ≡ turns.Left tape side → m.steps < n
      → HasRoomOutcome p one two three n (NoRoom tape)
  left_shown tape side is early =
      let out = subst (λ (t : QuadTurn). IsRoomTurn p t h.last) is h.turned in
      record {
        steps = m.steps;
        last = h.last;
        next = out.0;
        in_time = early;
        run = run_one_sided (reach_of m.reach) p m.steps (words_on p one two three) h.last h.reach.run;
        goes = out.1;
        left = out.2;
      }

  runs_shown : m.steps ≡ n → (d : Configuration ℕ) → QuadruplesRunTo everywhere p h.last d
      → HasRoomOutcome p one two three n Running
  runs_shown all d goes = record {
    last = h.last;
    next = d;
    run = subst (λ (i : ℕ). Reaches (OneSidedStep p) i (words_on p one two three) h.last) all
        (run_one_sided (reach_of m.reach) p m.steps (words_on p one two three) h.last h.reach.run);
    goes = goes;
  }

  pub late_shown : (tape : ℕ) (side : Side) → m.turn ≡ turns.Left tape side → n ≤ m.steps
      → HasRoomOutcome p one two three n Running
  late_shown tape side is late =
      let out = subst (λ (t : QuadTurn). IsRoomTurn p t h.last) is h.turned in
      let early : m.steps ≤ n = h.in_time in
      runs_shown (omega arith) out.0 out.1

  pub moved_shown : (quad : ℕ) → m.turn ≡ turns.Moved quad → HasRoomOutcome p one two three n Running
  moved_shown quad is =
      let out = subst (λ (t : QuadTurn). IsRoomTurn p t h.last) is h.turned in
      let early : m.steps ≤ n = h.in_time in
      let late : n ≤ m.steps = elim (cases_lt m.steps n) [
        | inl less ↦ absurd (h.early less quad is)
        | inr more ↦ more
      ] in
      runs_shown (omega arith) out.0 out.1
