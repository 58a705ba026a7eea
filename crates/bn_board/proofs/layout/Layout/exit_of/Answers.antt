use Rattle.bn_boards.specs.Layouts.{named, inside}
use Rattle.bn_board.proofs.layout.Layout.exit_of.Goals as goal

pub returns-in-Enter : goal.returns-in-Enter
returns-in-Enter c = named (inside _ _ c.in-Enter.is)
