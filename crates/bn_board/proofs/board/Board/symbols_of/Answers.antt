use Rattle.std.specs.Option.{option_map}
use Rattle.bn_boards.specs.Layouts.{symbol_by, cell_state_at, symbol_count_at}
use Rattle.bn_board.proofs.CellLemmas.{symbols_pushed}
use Rattle.bn_board.proofs.board.Board.symbols_of.Goals as goal

pub loop-cell-preserved : goal.loop-cell-preserved
loop-cell-preserved c =
    symbols_pushed (λ p. option_map (symbol_by (symbol_count_at c.args.self.now.layout c.args.tape))
    (cell_state_at c.args.self.now.layout
    c.args.self.now.config.states c.args.tape p)) c.loop-cell.cell c.loop-cell.symbols.items c.push.new.self.items
    c.symbol_at.result
    c.loop-cell.invariant c.symbol_at.ensures c.in_ok-push.ensures.items
