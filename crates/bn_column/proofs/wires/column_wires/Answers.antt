use Rattle.std.proofs.Common.{refl, arith}
use Rattle.bn_column.proofs.LadderLemmas.{ladder_more, ladder_closed}
use Rattle.bn_column.proofs.wires.column_wires.Goals as goal

pub loop-row-preserved : goal.loop-row-preserved
loop-row-preserved c = ladder_more c.args.first c.loop-row.row _ c.loop-row.wires.items c.push_rung.new.wires.items refl
    c.loop-row.invariant c.in_ok-push_rung.ensures.added

pub returns-clause-wires : goal.returns-clause-wires
returns-clause-wires c =
    ladder_closed c.args.first c.args.rows c.loop-row.row c.loop-row.wires.items c.push_wire.new.wires.items
    c.push_wire-2.new.wires.items c.push_wire-3.new.wires.items c.wire.result c.wire-2.result c.wire-3.result
    (omega arith) (omega arith) c.loop-row.invariant c.wire.ensures c.wire-2.ensures c.wire-3.ensures
    c.in_ok-push_wire.ensures.added c.in_ok-push_wire-2.ensures.added c.in_ok-push_wire-3.ensures.added
