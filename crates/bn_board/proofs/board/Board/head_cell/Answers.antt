use Rattle.std.proofs.Common.{arith, sym, ap, ◌≡◌, ◌∙◌, below_more}
use Rattle.bn_boards.specs.Layouts.{has_head, cell_state_at, symbol_count_at}
use Rattle.bn_network.specs.Networks.{cells_in}
use Rattle.bn_board.proofs.CellLemmas.{first_number, no_number}
use Rattle.bn_board.proofs.board.Board.head_cell.Goals as goal

pub returns-then-shows_head : goal.returns-then-shows_head
returns-then-shows_head c = first_number (λ p. has_head (symbol_count_at c.args.self.now.layout c.args.tape)
    (cell_state_at c.args.self.now.layout
    c.args.self.now.config.states c.args.tape p)) (cells_in c.args.self.now.layout.limits c.args.tape) c.loop-cell.cell
    (let e : c.cells-cell-end.result
    ≡ cells_in c.args.self.now.layout.limits c.args.tape = c.cells-cell-end.ensures.number
    ∙ ap (λ l. cells_in l.limits c.args.tape)
    c.layout.ensures.layout in omega arith) (sym c.shows_head.ensures ∙ c.if-shows_head.true) c.loop-cell.invariant

pub loop-cell-preserved : goal.loop-cell-preserved
loop-cell-preserved c = below_more _ _ c.loop-cell.invariant (sym c.shows_head.ensures ∙ c.if-shows_head.false)

pub returns : goal.returns
returns c = no_number (λ p. has_head (symbol_count_at c.args.self.now.layout c.args.tape)
    (cell_state_at c.args.self.now.layout c.args.self.now.config.states
    c.args.tape p)) (cells_in c.args.self.now.layout.limits c.args.tape) c.loop-cell.cell
    (let e : c.cells-cell-end.result ≡ cells_in
    c.args.self.now.layout.limits c.args.tape = c.cells-cell-end.ensures.number
    ∙ ap (λ l. cells_in l.limits c.args.tape) c.layout.ensures.layout in
    omega arith) c.loop-cell.invariant
