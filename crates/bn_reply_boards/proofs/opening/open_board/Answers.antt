use Rattle.bn_network.specs.Starts.{words_on}
use Rattle.bn_network_assembly.specs.Assembled.{limits_of, network_of}
use Rattle.bn_reply_boards.proofs.OpeningLemmas.{board_for}
use Rattle.bn_reply_boards.proofs.opening.open_board.Goals as goal

pub returns-in_ok-board-in-Ok : goal.returns-in_ok-board-in-Ok
returns-in_ok-board-in-Ok c =
    let m = c.args.machine.now in
    let l = limits_of c.args.windows.now in
    let words = c.args.words.now in
    let start = words_on m words.one.now words.two.now words.three.now in
    let made = c.in-Ok.ensures.made in
    let flat = c.in_ok-board-in-Ok.ensures in (
      made.0,
      network_of c.in-Ok.assembly,
      board_for m l start c.in-Ok.assembly c.in_ok-board-in-Ok.board made.0 made.1 flat.made flat.kept,
    )
