use Rattle.std.proofs.Common.{◌∷◌, [], sym, subst}
use Rattle.bn_farm.specs.Farms.{IsAdmitted, board_of}
use Rattle.bn_farm.specs.Writing.{HasWritten}
use Rattle.bn_netlist.specs.declared.net_config.NetConfig.{NetConfig}
use Rattle.bn_farm.proofs.WriteLemmas.{board_good, one_written}
use Rattle.bn_farm.proofs.write.push_boards.Goals as goal

pub push_board-requires : goal.push_board-requires
push_board-requires c =
    subst (λ (x : NetConfig). IsAdmitted (board_of x)) (sym c.board-item.is)
    (board_good c.args.boards.now c.loop-board.board-index c.board-item.result c.requires c.loop-board-test.true)

pub loop-board-preserved : goal.loop-board-preserved
loop-board-preserved c =
    one_written c.args.text.now.items c.loop-board.text.items c.push_board.new.text.items c.args.boards.now
    c.loop-board.board-index c.board-item.result c.loop-board.invariant c.loop-board-test.true
    (subst (λ (x : NetConfig). HasWritten c.loop-board.text.items c.push_board.new.text.items (board_of x ∷ []))
    c.board-item.is c.in_ok-push_board.ensures)
