use Rattle.std.proofs.Common.{subst}
use Rattle.std.specs.Prelude.{[], IfOk}
use Rattle.bn_quad.specs.Quadruples.{Quadruples}
use Rattle.bn_network.specs.Starts.{words_on}
use Rattle.bn_network_assembly.specs.Assembled.{limits_of}
use Rattle.bn_network_assembly.proofs.WordLemmas.{word-inputs}
use Rattle.bn_reply_boards.specs.Opened.{IsOpenedBoard}
use Rattle.bn_reply_boards.proofs.OpeningLemmas.{window_opened}
use Rattle.bn_reply_boards.proofs.opening.open_window.Goals as goal

pub open_board-requires-clause-within : goal.open_board-requires-clause-within
open_board-requires-clause-within c = rw c.machine.ensures.value c.requires.within

pub open_board-requires-clause-words : goal.open_board-requires-clause-words
open_board-requires-clause-words c =
    let l = limits_of c.args.windows.now in
    let symbols = c.args.symbols.now in
    rw c.machine.ensures.value
    (word-inputs c.args.translated.now.machine l symbols c.requires.word c.requires.fits)

pub returns : goal.returns
returns c =
    let l = limits_of c.args.windows.now in
    let symbols = c.args.symbols.now in
    window_opened l symbols c.args.translated.now c.requires.fits c.open_board.result
    (subst (λ (m : Quadruples). IfOk c.open_board.result (IsOpenedBoard m l (words_on m symbols [] [])))
    c.machine.ensures.value c.open_board.ensures)
