use Rattle.bn_netlist.proofs.ColumnTests.{upright_fail}
use Rattle.bn_netlist.proofs.column_lines.is_standing.Goals as goal

pub returns-then-bar-ne-VERTICAL : goal.returns-then-bar-ne-VERTICAL
returns-then-bar-ne-VERTICAL g c =
    upright_fail (g.C.Spellable.spelling c.args.config.now).config.states c.args.first c.loop-row.row c.args.rows
    c.bar.result c.loop-row-test.true c.bar.ensures c.if-bar-ne-VERTICAL.true
