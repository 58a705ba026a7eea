use Rattle.bn_netlist.proofs.ColumnTests.{column_answer}
use Rattle.bn_netlist.proofs.column_lines.column_rows.Goals as goal

pub returns : goal.returns
returns g c =
    let s = g.C.Spellable.spelling c.args.config.now in
    column_answer s.elements s.wires s.config.states c.args.element c.rows_at.result c.rows_at.ensures
