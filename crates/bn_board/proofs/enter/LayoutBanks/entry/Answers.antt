use Rattle.bn_board.proofs.EnterLemmas.{entered_line}
use Rattle.bn_board.proofs.enter.LayoutBanks.entry.Goals as goal

pub returns-then-at-elements : goal.returns-then-at-elements
returns-then-at-elements c = entered_line c.args.self.now c.args.at c.entered.result c.if-at-eq-WEST.true
    c.entered.ensures
