use Rattle.std.proofs.Common.{arith}
use Rattle.bn_board.proofs.MomentLemmas.{no_command, no_tape, one_command}
use Rattle.bn_board.proofs.layout.Layout.command_to.Goals as goal

pub returns-then-element-first : goal.returns-then-element-first
returns-then-element-first c = no_command c.args.self.now c.control_size-first.ensures.kept c.args.element
    c.loop-tape.tape (omega arith)
    c.loop-tape.invariant.later (omega arith)

pub returns-then-element-first-2 : goal.returns-then-element-first-2
returns-then-element-first-2 c = one_command c.args.self.now c.control_size-first.ensures.kept c.args.element
    c.loop-tape.tape c.loop-tape.first
    c.loop-tape.before (omega arith) (omega arith) (omega arith) c.loop-tape.invariant.first
    c.loop-tape.invariant.before c.loop-tape.invariant.later
    c.if-element-first.false (omega arith)

pub returns : goal.returns
returns c = no_tape c.args.self.now c.control_size-first.ensures.kept c.args.element c.loop-tape.tape (omega arith)
    c.loop-tape.invariant.later
