use Rattle.std.proofs.Common.{rules, sym, subst, w64}
use Rattle.std.proofs.lemmas.Int.{to_z-of_z}
use Rattle.bn_machine.specs.Machine.{Program}
use Rattle.bn_machine.specs.MachineCalls.{IsTurn}
use Rattle.bn_machine.specs.declared.machine.Turn.TheVariants as turns
use Rattle.bn_reply_traces.proofs.StageLemmas.{must_move, stage_more}
use Rattle.bn_reply_traces.proofs.stage.Stage.go_on.Goals as goal

pub unreachable-requires : goal.unreachable-requires
unreachable-requires c =
    must_move c.args.machine.now c.step.result c.args.self.now.state c.args.self.now.tape c.step.new.state
    c.step.new.tape c.requires.rule c.requires.stays c.step.ensures c.in_default.not-Moved

pub returns : goal.returns
returns c = λ t word n i same early few at.
    let l = to_z-of_z w64 c.head-left.result (search rules) in
    let h = to_z-of_z w64 c.head-head.result (search rules) in
    stage_more t word n i c.args.self.now c.step.new.state c.step.new.tape c.after-self.result c.head-left.result
    c.head-head.result c.letter_at.result c.is_none-is_blank.result few early at
    (subst (λ (p : Program). IsTurn p turns.Moved c.args.self.now.state c.args.self.now.tape c.step.new.state
    c.step.new.tape) (sym same) c.in-Moved.ensures) c.head-left.ensures.value c.head-head.ensures.value
    c.is_none-is_blank.ensures (rw (sym l) c.letter_at.ensures.letter) c.head-head.ensures.valid
    (λ x y m f. c.after-self.ensures.first x y (rw (l, h) m) f)
    (λ x y m f. c.after-self.ensures.last x y (rw (l, h) m) f)
