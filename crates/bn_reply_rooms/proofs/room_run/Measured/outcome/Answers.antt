use Rattle.std.proofs.Common.{inl, inr, ◌≤◌, rules}
use Rattle.bn_reply_rooms.specs.RoomRun.{limits_of}
use Rattle.bn_reply_rooms.proofs.MeasureLemmas.{final_shown, late_shown, left_shown, moved_shown, stuck_shown}
use Rattle.bn_reply_rooms.proofs.room_run.Measured.outcome.Goals as goal

pub returns-in-Final : goal.returns-in-Final
returns-in-Final c = λ m h.
    let one = c.args.words.now.one.now in
    let two = c.args.words.now.two.now in
    let three = c.args.words.now.three.now in
    elim c.in-Final.is [
      | inl is ↦ final_shown m one two three c.args.most_steps c.args.self.now h is (limits_of c.with_words.result)
          c.with_words.ensures
      | inr is ↦ stuck_shown m one two three c.args.most_steps c.args.self.now h is (limits_of c.with_words.result)
          c.with_words.ensures
    ]

pub returns-then-self-most_steps : goal.returns-then-self-most_steps
returns-then-self-most_steps c = λ m h.
    left_shown m c.args.words.now.one.now c.args.words.now.two.now c.args.words.now.three.now c.args.most_steps
    c.args.self.now h c.in-Left.tape c.in-Left.side c.in-Left.is (search rules)

pub returns-else-self-most_steps : goal.returns-else-self-most_steps
returns-else-self-most_steps c = λ m h.
    let late : c.args.most_steps ≤ c.args.self.now.steps = search rules in
    late_shown m c.args.words.now.one.now c.args.words.now.two.now c.args.words.now.three.now c.args.most_steps
    c.args.self.now h c.in-Left.tape c.in-Left.side c.in-Left.is late

pub returns-in-Moved : goal.returns-in-Moved
returns-in-Moved c = λ m h.
    moved_shown m c.args.words.now.one.now c.args.words.now.two.now c.args.words.now.three.now c.args.most_steps
    c.args.self.now h c.in-Moved.quad c.in-Moved.is
