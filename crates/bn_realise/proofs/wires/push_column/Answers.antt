use Rattle.std.proofs.Common.{◌∙◌, ◌++◌, ap, arith}
use Rattle.bn_realise.proofs.BankWiresLemmas.{stage_ends}
use Rattle.bn_realise.proofs.WireLemmas.{column_begun, begun_count}
use Rattle.bn_realise.proofs.wires.push_column.Goals as goal

pub loop-row-init : goal.loop-row-init
loop-row-init g c =
    let more = c.in_ok-extend_from_slice.ensures.items ∙ ap (λ xs. c.args.wires.now.items ++ xs)
    c.as_slice.ensures.value in (
      column_begun c.args.first (g.E.Element.table c.args.machine.now) c.lines_in-rows.result c.args.column
          c.element_at.result c.args.wires.now.items c.in_ok-inner.inner.items c.extend_from_slice.new.self.items
          (g.met.E.Element.reversible c.args.machine.now) c.requires.room c.lines_in-rows.ensures c.requires.column
          c.element_at.ensures more c.requires.earlier c.in_ok-inner.ensures.wires,
      begun_count c.extend_from_slice.new.self.items c.args.wires.now.items c.in_ok-inner.inner.items
          c.lines_in-rows.result more c.in_ok-inner.ensures.count,
    )

pub returns-clause-earlier : goal.returns-clause-earlier
returns-clause-earlier g c =
    stage_ends c.args.first (g.E.Element.table c.args.machine.now) (g.met.E.Element.reversible c.args.machine.now)
    c.requires.room.square c.requires.room.some_lines c.args.column c.loop-row.row c.loop-row.wires.items
    (omega (arith, c.lines_in-rows.ensures)) c.loop-row.invariant.0
