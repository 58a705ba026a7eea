use Rattle.std.proofs.Common.{true, false, refl}
use Rattle.bn_netlist.proofs.ColumnTests.{rungs_more, rungs_fail}
use Rattle.bn_netlist.proofs.column_lines.has_rungs.Goals as goal

pub returns-then-not-has_rung : goal.returns-then-not-has_rung
returns-then-not-has_rung g c = rungs_fail (g.C.Spellable.spelling c.args.config.now).wires c.args.first c.loop-row.row
    c.args.rows false c.loop-row-test.true c.if-not-has_rung.ensures refl

pub loop-row-preserved : goal.loop-row-preserved
loop-row-preserved g c = rungs_more (g.C.Spellable.spelling c.args.config.now).wires c.args.first c.loop-row.row true
    c.loop-row.invariant c.if-not-has_rung.ensures refl
