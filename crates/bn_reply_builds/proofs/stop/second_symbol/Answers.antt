use Rattle.std.proofs.Common.{◌≡◌, ◌+◌, arith}
use Rattle.bn_reply_builds.proofs.StopLemmas.{second_before, second_cells, second_read_so, second_unread}
use Rattle.bn_reply_builds.proofs.stop.second_symbol.Goals.{else-answer-eq3-via-then-answer-eq3+else-reads_tape}
use Rattle.bn_reply_builds.proofs.stop.second_symbol.Goals.{else-answer-eq3-via-else-answer-eq3}
use Rattle.bn_reply_builds.proofs.stop.second_symbol.Goals as goal

pub returns-then-reads_tape : goal.returns-then-reads_tape
returns-then-reads_tape c = λ l d is.
    let m = c.args.machine.now in
    let found = second_before m l c.args.read c.args.answer c.args.shown.now d is c.if-answer-eq3.true
    (second_read_so m l c.args.read c.args.answer c.args.shown.now d is c.if-answer-eq3.true
    (c.reads_tape.ensures.yes c.if-reads_tape.true)) in
    c.last_of.ensures _ found.0 found.1

pub returns-else-answer-eq3 : goal.returns-else-answer-eq3
returns-else-answer-eq3 c = λ l d is.
    let m = c.args.machine.now in
    let by : (unread : _) → c.scanned_on.result ≡ _ = (λ unread.
    c.scanned_on.ensures 0 l.steps (l.steps + 1) d.two
    (second_cells m l c.args.read c.args.answer c.args.shown.now d is c.if-answer-eq2.false unread)
    (omega arith) is.fits.two.head) in
    elim c.else-answer-eq3.branch [
      | else-answer-eq3-via-then-answer-eq3+else-reads_tape w ↦
          by (second_unread m l c.args.read c.args.answer c.args.shown.now d is
          (w.reads_tape.ensures.no w.if-reads_tape.false))
      | else-answer-eq3-via-else-answer-eq3 w ↦ by (λ last. absurd (w.if-answer-eq3.false last))
    ]
