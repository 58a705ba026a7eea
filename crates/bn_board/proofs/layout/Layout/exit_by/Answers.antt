use Rattle.bn_boards.specs.Layouts.{named}
use Rattle.bn_board.proofs.ExitLemmas.{at_end}
use Rattle.bn_board.proofs.layout.Layout.exit_by.Goals as goal

pub returns-then-eq : goal.returns-then-eq
returns-then-eq c = named (at_end c.args.self.now c.args.left c.end_line.result c.eq.result c.eq.ensures c.if-eq.true
    c.end_line.ensures.place)
