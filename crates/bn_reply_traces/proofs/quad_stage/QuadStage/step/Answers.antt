use Rattle.std.specs.Prelude.{None}
use Rattle.std.proofs.Common.{rules, subst, sym, w64}
use Rattle.std.proofs.lemmas.Int.{to_z-of_z}
use Rattle.bn_quad.specs.Calls.{configuration, rooms_of}
use Rattle.bn_quad.specs.Quadruples.{GoesBy, Quadruples}
use Rattle.bn_reply_traces.specs.ConfigurationText.{IsNextQuadruple}
use Rattle.bn_reply_traces.proofs.QuadStageLemmas.{left_turn, moved_turn, never_leaves, stage_ends, stage_more}
use Rattle.bn_reply_traces.proofs.QuadStageLemmas.{turn_stays}
use Rattle.bn_reply_traces.proofs.quad_stage.QuadStage.step.Goals as goal

pub unreachable-requires : goal.unreachable-requires
unreachable-requires c =
    let s = c.args.self.now in
    never_leaves c.args.machine.now s c.in-Left.tape c.in-Left.side c.requires
    (left_turn c.args.machine.now c.step.result s.state s.tapes c.step.new.state c.step.new.tapes c.in-Left.tape
    c.in-Left.side
    c.in-Left.is c.step.ensures)

pub returns-in-Moved : goal.returns-in-Moved
returns-in-Moved c = λ t words n i x same machine symbols states early few at.
    let s = c.args.self.now in
    let v = c.step.new.tapes in
    let moved = moved_turn c.args.machine.now c.step.result s.state s.tapes c.step.new.state v c.in-Moved.quad
    c.in-Moved.is
    c.step.ensures
    in
    let goes = subst (λ (p : Quadruples). GoesBy (rooms_of s.tapes) p c.in-Moved.quad (configuration s.state s.tapes)
    (configuration c.step.new.state v)) (sym same) moved.0
    in
    let l1 = to_z-of_z w64 c.head-one.result (search rules) in
    let l2 = to_z-of_z w64 c.head-two.result (search rules) in
    let l3 = to_z-of_z w64 c.head-three.result (search rules) in
    stage_more t words n i x s c.in-Moved.quad c.step.new.state v
    (record { one = c.follow.result; two = c.follow-in-Moved.result; three = c.follow-in-Moved-2.result })
    c.head-one.result
    c.head-two.result c.head-three.result machine symbols states at goes moved.1 c.head-one.ensures.value
    c.head-two.ensures.value c.head-three.ensures.value
    (record {
      first = λ a b u stands inside steps f. c.follow.ensures.first a b u stands (rw l1 inside) (rw l1 steps) f;
      last = λ a b u stands inside steps f. c.follow.ensures.last a b u stands (rw l1 inside) (rw l1 steps) f;
      windowed = c.follow.ensures.windowed;
    })
    (record {
      first = λ a b u stands inside steps f. c.follow-in-Moved.ensures.first a b u stands (rw l2 inside) (rw l2 steps)
          f;
      last = λ a b u stands inside steps f. c.follow-in-Moved.ensures.last a b u stands (rw l2 inside) (rw l2 steps) f;
      windowed = c.follow-in-Moved.ensures.windowed;
    })
    (record {
      first = λ a b u stands inside steps f. c.follow-in-Moved-2.ensures.first a b u stands (rw l3 inside) (rw l3 steps)
          f;
      last = λ a b u stands inside steps f. c.follow-in-Moved-2.ensures.last a b u stands (rw l3 inside) (rw l3 steps)
          f;
      windowed = c.follow-in-Moved-2.ensures.windowed;
    })

pub returns-in_default : goal.returns-in_default
returns-in_default c = λ t words n i x same machine symbols states early few at.
    let s = c.args.self.now in
    let h = turn_stays c.args.machine.now c.step.result s.state s.tapes c.step.new.state c.step.new.tapes
    c.in_default.not-Moved c.in_default.not-Left c.step.ensures
    in (
      stage_ends t words n i x s at
          (subst (λ (p : Quadruples). IsNextQuadruple p (configuration s.state s.tapes) None) (sym same) h.0),
      λ k. record { state = h.1 k; tapes = h.2 k; extents = s.extents },
    )
