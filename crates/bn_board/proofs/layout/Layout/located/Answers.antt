use Rattle.bn_board.proofs.LocationLemmas.{control_is}
use Rattle.bn_board.proofs.layout.Layout.located.Goals as goal

pub returns-then-entered-control_size : goal.returns-then-entered-control_size
returns-then-entered-control_size c = control_is c.args.self.now c.args.entered.element c.args.entered.line
    c.control_size.result c.lines.result
    c.control_size.ensures.number c.lines.ensures.number c.if-entered-control_size.true c.input_line.result
    c.input_line.ensures
