use Rattle.std.proofs.Common.{refl}
use Rattle.bn_reply_builds.proofs.StopLemmas.{first_cells, first_unread}
use Rattle.bn_reply_builds.proofs.stop.first_symbol.Goals as goal

pub returns-else-reads_tape : goal.returns-else-reads_tape
returns-else-reads_tape c = λ l d is.
    let m = c.args.machine.now in
    c.scanned_on.ensures l.left l.right _ d.one
    (first_cells m l c.args.read c.args.answer c.args.shown.now d is c.if-answer-eq1.false
    (first_unread m l c.args.read c.args.answer c.args.shown.now d is c.if-answer-eq1.false
    (c.reads_tape.ensures.no c.if-reads_tape.false)))
    refl is.fits.one.head
