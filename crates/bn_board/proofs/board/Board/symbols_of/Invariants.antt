use Rattle.std.proofs.Common.{◌≡◌, map}
use Rattle.std.specs.List.{range_with_len}
use Rattle.std.specs.Option.{option_map}
use Rattle.bn_boards.specs.Layouts.{symbol_by, cell_state_at, symbol_count_at}
use Rattle.bn_board.proofs.board.Board.symbols_of.Given as goal

abbrev pub invariant-loop-cell : goal.invariant-loop-cell
invariant-loop-cell l = l.symbols.items ≡ map (λ p. option_map (symbol_by (symbol_count_at l.self.layout l.tape))
    (cell_state_at l.self.layout
    l.self.config.states l.tape p)) (range_with_len 0 l.cell)
