use Rattle.std.proofs.Common.{sym, ◌∙◌}
use Rattle.bn_control.specs.Names.{listed}
use Rattle.bn_control.proofs.ShownLemmas.{write_new, write_old, write_none}
use Rattle.bn_control.proofs.count.new_write.Goals.{else-is_some-via-then-is_some+else-not-is_written_before}
use Rattle.bn_control.proofs.count.new_write.Goals.{else-is_some-via-else-is_some}
use Rattle.bn_control.proofs.count.new_write.Goals as goal

pub returns-then-not-is_written_before-clause-new : goal.returns-then-not-is_written_before-clause-new
returns-then-not-is_written_before-clause-new c = write_new c.args.quads.now c.args.index c.args.to c.args.tape
    (listed c.args.rest) c.args.written (sym c.is_some.ensures ∙ c.if-is_some.true)
    (c.is_written_before.ensures.no c.if-not-is_written_before.true)

pub returns-else-is_some-clause-new : goal.returns-else-is_some-clause-new
returns-else-is_some-clause-new c = elim c.else-is_some.branch [
  | else-is_some-via-then-is_some+else-not-is_written_before w
      ↦ write_old c.args.quads.now c.args.index c.args.to c.args.tape (listed c.args.rest) c.args.written
      (w.is_written_before.ensures.yes w.if-not-is_written_before.false)
  | else-is_some-via-else-is_some w ↦ write_none c.args.quads.now c.args.index c.args.to c.args.tape
      (listed c.args.rest) c.args.written (sym c.is_some.ensures ∙ w.if-is_some.false)
]
