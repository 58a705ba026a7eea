use Rattle.std.proofs.Common.{arith, sym, ◌∙◌}
use Rattle.bn_realise.specs.Banks.{bottom_at}
use Rattle.bn_boards.specs.Layouts.{is_marked_at}
use Rattle.bn_board.proofs.CellLemmas.{bottom_low, first_number, no_number}
use Rattle.bn_board.proofs.board.Board.marked_column.Goals as goal

pub is_marked-requires : goal.is_marked-requires
is_marked-requires c = let h = bottom_low c.args.first c.loop-column.column c.args.columns c.args.rows (omega arith) in
    omega arith

pub returns-then-is_marked : goal.returns-then-is_marked
returns-then-is_marked c = first_number (λ j. is_marked_at c.args.self.now.config.states
    (bottom_at c.args.first c.args.rows j)) c.args.columns
    c.loop-column.column (omega arith) (sym c.is_marked.ensures ∙ c.if-is_marked.true) c.loop-column.invariant

pub returns : goal.returns
returns c = no_number (λ j. is_marked_at c.args.self.now.config.states (bottom_at c.args.first c.args.rows j))
    c.args.columns c.loop-column.column
    (omega arith) c.loop-column.invariant
