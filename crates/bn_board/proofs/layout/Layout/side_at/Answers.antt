use Rattle.bn_board.proofs.ExitLemmas.{at_right, at_left, off_ends}
use Rattle.bn_board.proofs.layout.Layout.side_at.Goals as goal

pub returns-then-eq-clause-named : goal.returns-then-eq-clause-named
returns-then-eq-clause-named c = at_right c.args.self.now c.args.tape c.cells.result c.letters-letters.result
    c.cells.ensures.number
    c.letters-letters.ensures.number c.args.left c.output_line.result c.eq.result c.requires.first c.requires.last
    c.eq.ensures c.if-eq.true
    c.output_line.ensures

pub returns-then-eq-2-clause-named : goal.returns-then-eq-2-clause-named
returns-then-eq-2-clause-named c = at_left c.args.self.now c.args.tape c.cells.result c.letters-letters.result
    c.cells.ensures.number
    c.letters-letters.ensures.number c.args.left c.output_line-else-eq.result c.eq-else-eq.result c.requires.first
    c.requires.last c.eq-else-eq.ensures
    c.if-eq-2.true c.output_line-else-eq.ensures

pub returns-else-eq-2-clause-none : goal.returns-else-eq-2-clause-none
returns-else-eq-2-clause-none c = off_ends c.args.self.now c.args.tape c.cells.result c.letters-letters.result
    c.cells.ensures.number
    c.letters-letters.ensures.number c.args.left c.output_line.result c.output_line-else-eq.result c.eq.result
    c.eq-else-eq.result c.eq.ensures
    c.if-eq.false c.eq-else-eq.ensures c.if-eq-2.false c.output_line.ensures c.output_line-else-eq.ensures
