use Rattle.std.proofs.Common.{arith}
use Rattle.bn_board.proofs.ExitLemmas.{off_line, off_states, off_awaited, off_letters, by_letter}
use Rattle.bn_board.proofs.layout.Layout.stuck_at.Goals.{then-state-states-via-then-state-states}
use Rattle.bn_board.proofs.layout.Layout.stuck_at.Goals.{then-state-states-via-else-state-states+then-left-ne-WEST}
use Rattle.bn_board.proofs.layout.Layout.stuck_at.Goals as goal

pub returns-then-state-states : goal.returns-then-state-states
returns-then-state-states c = elim c.then-state-states.branch [
  | then-state-states-via-then-state-states w ↦ off_states c.args.self.now c.states.ensures.kept c.args.left.element
      c.args.left.line c.lines-rows.result
      c.lines-rows.ensures.number (omega arith)
  | then-state-states-via-else-state-states+then-left-ne-WEST w
      ↦ off_line c.args.self.now c.states.ensures.kept c.args.left.element c.args.left.line
      w.if-left-ne-WEST.true
]

pub returns-in_default : goal.returns-in_default
returns-in_default c = off_awaited c.args.self.now c.states.ensures.kept c.args.left.element c.args.left.line
    c.lines-rows.result
    c.lines-rows.ensures.number c.in_default.ensures.kept

pub returns-in-Some-answer_at : goal.returns-in-Some-answer_at
returns-in-Some-answer_at c = by_letter c.args.self.now c.states.ensures.kept c.args.left.element c.args.left.line
    c.lines-rows.result
    c.lines-rows.ensures.number c.in-Some.from c.in-Some.tape c.in-Some.ensures.kept c.in-Some-answer_at.symbol
    c.if-left-ne-WEST.false
    c.in-Some-answer_at.ensures

pub returns-in-None : goal.returns-in-None
returns-in-None c = off_letters c.args.self.now c.states.ensures.kept c.args.left.element c.args.left.line
    c.lines-rows.result
    c.lines-rows.ensures.number c.in-Some.from c.in-Some.tape c.in-Some.ensures.kept c.in-None.ensures
