use Rattle.std.proofs.Common.{◌<◌, arith}
use Rattle.bn_netlist.proofs.column_lines.rows_at.Goals as goal

pub is_column-requires-clause-within : goal.is_column-requires-clause-within
is_column-requires-clause-within g c =
    let there : c.in_ok-bottom.bottom.element < (g.C.Spellable.spelling c.args.config.now).elements =
    c.in_ok-bottom.ensures.inside in
    omega (arith, c.if-bottom-element.false)
