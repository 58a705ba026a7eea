-- The laws of this crate that follow from those of the crates below it, each proved.
use Rattle.bn_bennett.proofs.LawLemmas.{translations_are_uniform}
use Rattle.bn_bennett.proofs.Once.{translations_are_one}
use Rattle.bn_boards.proofs.ReadingLemmas.{boards-read}
use Rattle.bn_boards.proofs.SameLemmas.{flats-one}
use Rattle.bn_boards.proofs.WordLemmas.{words-differ, words-share}
use Rattle.bn_boards.specs.LayoutLaws.{FlatsAreOne, BoardsRead, WordsDifferInCells, WordsShareBoards}
use Rattle.bn_network.proofs.ExistingLemmas.{have-entries}
use Rattle.bn_network.proofs.LawLemmas.{controls_are_one}

pub flats_are_one : FlatsAreOne
flats_are_one = flats-one translations_are_one translations_are_uniform controls_are_one have-entries

pub boards_are_read : BoardsRead
boards_are_read = boards-read

pub words_differ_in_cells : WordsDifferInCells
words_differ_in_cells = words-differ translations_are_one translations_are_uniform controls_are_one have-entries

pub words_share_boards : WordsShareBoards
words_share_boards = words-share translations_are_one translations_are_uniform controls_are_one have-entries
