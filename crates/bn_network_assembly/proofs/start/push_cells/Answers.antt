use Rattle.std.proofs.Common.{◌∙◌, ◌++◌, ◌∷◌, [], ap}
use Rattle.bn_network_assembly.proofs.StartLemmas.{cells_pushed}
use Rattle.bn_network_assembly.proofs.start.push_cells.Goals as goal

pub loop-cell-preserved : goal.loop-cell-preserved
loop-cell-preserved c =
    cells_pushed c.args.states.now.items c.loop-cell.states.items c.push.new.self.items c.args.symbols c.args.left
    c.loop-cell.cell c.args.word.now c.loop-cell.invariant
    (c.in_ok-push.ensures.items ∙ ap (λ q. c.loop-cell.states.items ++ q ∷ []) c.start_state.ensures)
