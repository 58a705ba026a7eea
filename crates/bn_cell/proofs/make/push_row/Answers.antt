use Rattle.std.proofs.Common.{sym, ap, ◌∙◌}
use Rattle.bn_network.specs.Cells.{cell_table}
use Rattle.bn_cell.proofs.RowLemmas.{row_some, row_none}
use Rattle.bn_cell.proofs.make.push_row.Goals as goal
use Rattle.bn_cell.proofs.make.push_row.Goals.{in-Some+in_ok-push, in_default}

pub loop-line-preserved : goal.loop-line-preserved
loop-line-preserved c =
    elim c.match-go.branch [
      | in-Some+in_ok-push w ↦ row_some (cell_table c.args.cell.now.symbols) c.args.state c.loop-line.line
          w.in-Some.next w.in-Some.out c.args.moves.now.items c.loop-line.moves.items c.match-go.moves.items
          c.loop-line.invariant (sym c.go.ensures ∙ w.in-Some.is)
          (ap (λ v. v.items) w.moves-is ∙ w.in_ok-push.ensures.items)
      | in_default w ↦ row_none (cell_table c.args.cell.now.symbols) c.args.state c.loop-line.line
          c.args.moves.now.items c.match-go.moves.items (ap (λ v. v.items) w.moves-is ∙ c.loop-line.invariant)
          (sym c.go.ensures ∙ w.in_default.is)
    ]
