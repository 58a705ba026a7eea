use Rattle.std.proofs.Common.{rules}
use Rattle.bn_circuits.specs.declared.net.TheConstants.{MOST_ELEMENTS}
use Rattle.bn_board.proofs.DrawnLemmas.{module_drawn}
use Rattle.bn_board.proofs.wiring.draw_leaving.Goals as goal

pub returns : goal.returns
returns c = module_drawn c.args.net.now c.args.bases.now MOST_ELEMENTS c.requires.modules c.requires.few
    c.requires.bases c.args.number c.loop-line.line c.element.result.now c.loop-line.draft c.element.ensures
    (search rules) c.loop-line.invariant.drawn
