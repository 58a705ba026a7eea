use Rattle.std.proofs.Common.{sym, ◌∙◌}
use Rattle.bn_control.specs.Names.{listed}
use Rattle.bn_control.proofs.ShownLemmas.{read_new, read_old, read_none}
use Rattle.bn_control.proofs.count.new_read.Goals.{else-is_some-via-then-is_some+else-not-is_read_before}
use Rattle.bn_control.proofs.count.new_read.Goals.{else-is_some-via-else-is_some}
use Rattle.bn_control.proofs.count.new_read.Goals as goal

pub returns-then-not-is_read_before-clause-new : goal.returns-then-not-is_read_before-clause-new
returns-then-not-is_read_before-clause-new c = read_new c.args.quads.now c.args.index c.args.from (listed c.args.before)
    c.args.read (sym c.is_some.ensures ∙ c.if-is_some.true) (c.is_read_before.ensures.no c.if-not-is_read_before.true)

pub returns-else-is_some-clause-new : goal.returns-else-is_some-clause-new
returns-else-is_some-clause-new c = elim c.else-is_some.branch [
  | else-is_some-via-then-is_some+else-not-is_read_before w ↦ read_old c.args.quads.now c.args.index c.args.from
      (listed c.args.before) c.args.read (w.is_read_before.ensures.yes w.if-not-is_read_before.false)
  | else-is_some-via-else-is_some w ↦ read_none c.args.quads.now c.args.index c.args.from (listed c.args.before)
      c.args.read (sym c.is_some.ensures ∙ w.if-is_some.false)
]
