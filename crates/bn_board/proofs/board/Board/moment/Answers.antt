use Rattle.std.proofs.Common.{Some, subst, sym, ◌∙◌, ap}
use Rattle.bn_circuits.specs.declared.place.Place.TheVariants.{Enter}
use Rattle.bn_boards.specs.Layouts.{end_place}
use Rattle.bn_board.specs.Moments.{IsCommandTo}
use Rattle.bn_board.proofs.ExitLemmas.{off_end as other_end}
use Rattle.bn_board.proofs.MomentLemmas.{off_west, off_commands, off_end}
use Rattle.bn_board.proofs.board.Board.moment.Goals as goal

pub returns-then-line-ne-WEST-clause-moment : goal.returns-then-line-ne-WEST-clause-moment
returns-then-line-ne-WEST-clause-moment c = off_west c.args.self.now.layout c.args.self.now.config c.in-Enter.element
    c.in-Enter.line
    (sym c.in-Enter.ensures.place)
    c.if-line-ne-WEST.true

pub returns-in-None-clause-moment : goal.returns-in-None-clause-moment
returns-in-None-clause-moment c = off_commands c.args.self.now.layout c.args.self.now.config c.in-Enter.element
    (sym c.in-Enter.ensures.place ∙ ap (λ n. Enter
    c.in-Enter.element n) c.if-line-ne-WEST.false) c.layout.ensures.kept.layout
    (subst (λ l. IsCommandTo l c.in-Enter.element _) c.layout.ensures.layout
    c.in-None.ensures)

pub returns-else-eq-clause-moment : goal.returns-else-eq-clause-moment
returns-else-eq-clause-moment c = off_end c.args.self.now.layout c.args.self.now.config c.in-Left.element c.in-Left.line
    (sym c.in-Left.ensures.place) (other_end
    c.args.self.now.layout (record { element = c.in-Left.element; line = c.in-Left.line }) c.end_line.result c.eq.result
    c.eq.ensures c.if-eq.false
    (c.end_line.ensures.place ∙ ap end_place c.layout-in-Left.ensures.layout))

pub sent_first-requires-clause-command : goal.sent_first-requires-clause-command
sent_first-requires-clause-command c = subst (λ l. IsCommandTo l c.in-Enter.element (Some c.in-Some.command))
    c.layout.ensures.layout c.in-Some.ensures
