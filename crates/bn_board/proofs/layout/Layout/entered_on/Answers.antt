use Rattle.std.proofs.Common.{ap, arith, ◌*◌}
use Rattle.bn_board.specs.Entered.{of_cell}
use Rattle.bn_board.proofs.layout.Layout.entered_on.Goals as goal

pub returns-then-element-first : goal.returns-then-element-first
returns-then-element-first c =
    let first = c.cell_element-first.ensures.number in
    let low = c.cell_of-cell.ensures.low in
    let row = c.if-element-first.true in (
      of_cell c.args.tape c.cell_of-cell.result (record { low = omega arith; high = c.requires.last })
          c.cell_of-cell.ensures.within first
          (ap (λ z. 2 * z) c.letters.ensures.number) c.cell_lines-lines.ensures.number row,
      omega arith,
    )
