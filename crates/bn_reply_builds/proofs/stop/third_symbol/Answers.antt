use Rattle.std.proofs.Common.{◌+◌, arith}
use Rattle.bn_reply_builds.proofs.StopLemmas.{third_cells}
use Rattle.bn_reply_builds.proofs.stop.third_symbol.Goals as goal

pub returns-else-answer-eq3 : goal.returns-else-answer-eq3
returns-else-answer-eq3 c = λ m l read d is.
    c.scanned_on.ensures 0 l.output (l.output + 1) d.three
    (third_cells m l read c.args.answer c.args.shown.now d is c.if-answer-eq3.false) (omega arith)
    is.fits.three.head
